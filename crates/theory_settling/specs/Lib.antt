-- a settling's conditions, its count of steps before the threshold, and its promise
pub mod Settlings
-- the conditions as tests, in their order
pub mod SettlingConditions
-- what a refusal by a condition says
pub mod SettlingFails
-- loops and settlings that theorems and the tables speak of
pub mod SettlingSamples
-- what is told of them, and what they compute
pub mod SettlingTable
