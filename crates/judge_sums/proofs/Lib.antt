pub mod ColumnLaws
pub mod LiftLaws
pub mod ListLaws
pub mod Sample
pub mod RunningLaws
pub mod TotalsLaws
