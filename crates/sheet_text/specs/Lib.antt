-- the text of a sheet, and what the call answers for every room
pub mod Sheets
-- one name that opens every definition of the text
pub mod Computing
