-- what a settling's test tells
pub mod SettlingBy
-- the settling that bytes hold
pub mod SettlingHeld
