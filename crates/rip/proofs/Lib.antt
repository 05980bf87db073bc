pub mod OneAnswer
pub mod FlatSamples
