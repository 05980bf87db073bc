-- laws of the tests: at each place, of weighted rows, path after path
pub mod PathLaws
-- numbers that fall in turn come to an end
pub mod FallingEnds
-- what the conditions of a path say of whole numbers
pub mod StepNumbers
-- the promise of a lexicographic argument, and what it is for one path
pub mod LexicographicTheorems
-- the tests and the conditions say the same, and tell exactly the first that fails
pub mod PathDecisions
-- steps of rows that are written out
pub mod PlainSteps
-- theorems about the samples, and the table of what is told
pub mod PathSampleTheorems
-- what is in the definitions, and what is not
pub mod PathPins
