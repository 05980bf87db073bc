pub mod RankLengths
pub mod InTurn
pub mod Filling
pub mod BatchSamples
pub mod BatchPromises
