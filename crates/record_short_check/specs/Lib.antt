-- what the parts of a check answer
pub mod ShortChecks
