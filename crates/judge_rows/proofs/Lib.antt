pub mod WordLaws
pub mod RowSamples
pub mod OneAnswer
