pub mod TripleTests
pub mod TripleWalks
pub mod ShortWays
