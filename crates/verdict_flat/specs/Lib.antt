-- a verdict as fields that are numbers
pub mod FlatVerdicts
-- and back again
pub mod VerdictsBack
