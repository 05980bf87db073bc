-- the rise, in 02's words and as weighted rows
pub mod SettlingParts
-- what the rise and the added row say of whole numbers
pub mod SettlingNumbers
-- the tests and the conditions say the same, and tell exactly the first that fails
pub mod SettlingDecisions
-- what is told, condition after condition
pub mod SettlingInOrder
-- the promise of a settling
pub mod SettlingTheorems
-- theorems about the samples, and the tables
pub mod SettlingSampleTheorems
-- what is in the definitions, and what is not
pub mod SettlingPins
