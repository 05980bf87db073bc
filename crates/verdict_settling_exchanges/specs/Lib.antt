-- a loop and a settling in which no two numbers of one form are alike
pub mod UnlikeSettling
-- the table
pub mod Exchanged
