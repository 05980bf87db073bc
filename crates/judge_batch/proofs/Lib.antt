pub mod LoopsChecked
pub mod BatchWays
pub mod PartWays
pub mod FlatWays
