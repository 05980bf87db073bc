-- a list of values as a source of numbers
pub mod ListAnswers
