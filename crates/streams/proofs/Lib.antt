-- the laws of steps, and of bytes that are moved in several calls
pub mod AnswerLaws
