-- what a settling shows, and what judging it answers
pub mod SettlingShown
-- a certificate whose kind is read
pub mod PastFrames
