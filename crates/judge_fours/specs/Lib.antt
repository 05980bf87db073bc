-- four rows more
pub mod Fours
