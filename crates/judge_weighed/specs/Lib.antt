-- the weighted rows that bytes hold
pub mod WeightedHeld
