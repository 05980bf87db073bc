-- the bound of a settling by places, and what is answered with it
pub mod SettlingBounded
