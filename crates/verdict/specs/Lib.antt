-- what a bound call answers
pub mod Bounding
-- what a certificate of each kind claims
pub mod Claims
-- one name that opens every definition of judging and bound
pub mod Computing
-- what a sound record's values are, in the theory's words
pub mod Contents
-- what a refusal by a condition says
pub mod Fails
-- what judging answers
pub mod Judging
-- how large the numbers can get
pub mod Magnitudes
-- 01's numbers for each outcome and grade
pub mod Outcomes
-- the two records of a judge, and what the certificate claims
pub mod Pairs
-- S1 to S14 as bytes
pub mod Samples
-- orders of stages, each with the record that it speaks of
pub mod Stages
-- the tests of a state: 10, then 9
pub mod StateTests
