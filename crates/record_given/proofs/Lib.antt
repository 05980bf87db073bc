pub mod CountingWays
pub mod SettlingWays
pub mod SettledAnswers
