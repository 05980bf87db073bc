-- what is told of the rise and the ranking, in their order
pub mod SettlingLaws
-- what sound records hold by places
pub mod SettlingContentsHeld
-- what a check's answer tells
pub mod SettlingEntered
