-- a verdict as a row of seven numbers, and the rows of a batch
pub mod VerdictRows
