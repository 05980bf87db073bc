-- what sound records of kinds 5 and 6 hold, in the theory's words
pub mod PathContents
-- what judging answers of them
pub mod PathJudging
-- what judging answers of every loop, by its kind
pub mod JudgingByLoop
-- loops and arguments within the limits, and the bytes that hold them
pub mod PathValues
-- samples as bytes
pub mod PathSampleBytes
-- one name that opens every definition, for tables
pub mod JudgingComputing
