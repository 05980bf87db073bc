pub mod Unpacked
pub mod OneAnswer
