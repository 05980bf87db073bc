-- the loop with the added row
pub mod LongerHeld
