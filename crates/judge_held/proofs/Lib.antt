pub mod HeldRuns
pub mod NumbersHeld
