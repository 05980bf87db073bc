pub mod WeighedByTotals
pub mod PathPlaces
pub mod Pairs
pub mod PathsHeld
