-- bytes as a source of numbers
pub mod BytesAnswers
