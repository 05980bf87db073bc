-- loops of several paths, their steps and endless runs
pub mod Paths
-- a lexicographic argument, its conditions, and what they are held to
pub mod Lexicographics
-- the conditions as tests, path by path
pub mod PathConditions
-- what a refusal by a condition says
pub mod PathFails
-- one path alone: rankings as arguments, and arguments as rankings
pub mod OnePath
-- loops and arguments that theorems and the table speak of
pub mod PathSamples
-- what is told of them
pub mod PathTable
