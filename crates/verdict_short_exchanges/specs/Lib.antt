-- a loop, and a short ranking for it in which no two numbers are alike
pub mod UnlikeShort
-- the table
pub mod Exchanged
