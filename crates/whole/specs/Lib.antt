-- what a running sum needs before one more term
pub mod Ready
-- a row
pub mod Rows
-- the test of equality
pub mod Same
-- sums over lists and rows
pub mod Sums
