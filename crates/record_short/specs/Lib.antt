-- kind 7: its triples, its order of tests, and what it stands for
pub mod ShortRecords
-- moving a ranking to kind 7 and back: what the two calls answer
pub mod Conversions
-- one name that opens every definition, for tables
pub mod ShortComputing
