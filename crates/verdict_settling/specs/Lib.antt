-- what a sound record of kind 8 holds, in the theory's words
pub mod SettlingContents
-- what judging and bound answer of it
pub mod SettlingJudging
-- what judging and bound answer, by the kinds of the records
pub mod AnswersByKind
-- settlings within the limits, and the bytes that hold them
pub mod SettlingValues
-- samples as bytes
pub mod SettlingSampleBytes
-- one name that opens every definition, for tables
pub mod AnswersComputing
