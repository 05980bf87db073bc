-- two pairs in which no two numbers of one form are alike
pub mod UnlikePaths
-- the table
pub mod Exchanged
