pub mod AsTheyAre
pub mod OneAnswer
