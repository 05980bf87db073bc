-- the exclusion that bytes hold
pub mod ExclusionHeld
