pub mod ShortWays
