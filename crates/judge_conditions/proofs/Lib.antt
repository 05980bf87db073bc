pub mod Totals
pub mod Compared
pub mod RememberedLaws
