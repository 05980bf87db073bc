-- the loop that bytes hold from a start on
pub mod LoopHeld
-- where a condition fails first
pub mod Remembered
