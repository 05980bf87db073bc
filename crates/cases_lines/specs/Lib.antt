-- the words of a line, and what they tell
pub mod Words
pub mod Sizes
