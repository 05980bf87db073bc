pub mod BoundingWays
pub mod FittingStates
pub mod BoundedKinds
pub mod ByKind
