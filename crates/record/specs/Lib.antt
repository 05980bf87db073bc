-- one name that opens every definition of records, for tables
pub mod Computing
-- the parts of each kind by their names in 01, and their limits
pub mod Contents
-- a field: how bytes hold its number, and its range
pub mod Fields
-- the kinds, their bodies as lists of fields, and 01's L
pub mod Layouts
-- 01's table of ranges
pub mod Ranges
-- what a reading answers, and "Order for a record"
pub mod Readers
-- records with their bytes written out
pub mod Samples
-- which kinds a call wants
pub mod Wants
-- what a writing answers, and its order
pub mod Writers
-- the answer of what was written
pub mod Writings
