pub mod FieldFaults
pub mod PathWalks
pub mod OrderWays
pub mod PathWays
pub mod ArgumentWays
