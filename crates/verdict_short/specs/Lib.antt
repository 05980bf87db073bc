-- what judging and bound answer of a short ranking, and of every certificate for a loop of kind 1
pub mod ShortJudging
-- the multipliers that a short ranking stands for, in the theory's words
pub mod ShortContents
-- triples within the limits, the bytes that hold them and the ranking that they stand for
pub mod ShortValues
-- what the public judge and bound answer
pub mod Answers
-- one name that opens every definition, for tables
pub mod AnswersComputing
