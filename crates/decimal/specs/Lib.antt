-- whole numbers as decimal text
pub mod Decimals
-- what a room holds after a text was put into it
pub mod Rooms
-- what is asked of a room for text, and what is promised of it
pub mod Texts
