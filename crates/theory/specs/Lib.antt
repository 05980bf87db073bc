-- rows, loops, steps, runs, endless runs
pub mod Loops
-- a ranking's conditions, rank, start, fall, bound, and its promise
pub mod Rankings
-- an exclusion's conditions
pub mod Exclusions
-- rows that weigh as they are held to
pub mod WeightedRows
-- a lasso's conditions, and its promise
pub mod Lassos
-- rows without weight, and a common factor
pub mod Weights
-- the conditions as tests in 01's order
pub mod Conditions
-- what a refusal by a condition says
pub mod Fails
-- samples as lists of rows
pub mod Samples
-- what the tests tell of the samples
pub mod Table
