-- what a check answers
pub mod Checks
-- a right frame
pub mod Framing
