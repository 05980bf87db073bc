pub mod FlatVerdictSamples
pub mod VerdictsAgain
