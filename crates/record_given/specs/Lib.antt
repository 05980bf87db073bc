-- what is told of what came to a writer before its room
pub mod Settled
