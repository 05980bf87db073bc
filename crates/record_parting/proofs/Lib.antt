pub mod PartingLaws
pub mod PartingReads
pub mod PartingPlaces
