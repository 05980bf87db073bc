-- the edges of both calls, computed
pub mod ShortEdges
-- what a sound record of kind 7 has
pub mod ShortSound
-- runs of u16
pub mod NumberRuns
-- the kind 2 record that a short one stands for, as runs
pub mod LongRecords
-- the rows that have weight, and their triples
pub mod ShortBytes
-- what a sound record of kind 2 has
pub mod LongSound
-- weights by their rows
pub mod Weights
-- kind 2 to kind 7 and back
pub mod ShortenLengthen
-- kind 7 to kind 2 and back
pub mod LengthenShorten
-- what one call wrote, given to the other; and refused calls
pub mod ThereAndBack
