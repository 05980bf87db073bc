-- what the bound's functions know of the state, and what they show
pub mod BoundShown
