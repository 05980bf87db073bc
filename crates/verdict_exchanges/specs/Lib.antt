-- bytes exchanged at two places, and the lines of the table
pub mod Exchanges
-- the table
pub mod Exchanged
