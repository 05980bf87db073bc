-- the terms of the sums along a row and at a state, and what the sums are
pub mod AlongRows
