pub mod BoundWays
pub mod AnswerWays
pub mod OneAnswer
