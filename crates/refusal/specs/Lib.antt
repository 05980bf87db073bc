-- a refusal's number and place, and tests in an order
pub mod Tests
-- a condition that is asked at each of some places
pub mod Places
-- what is told, as code hands it on
pub mod Faults
-- one possible answer, stated of a contract
pub mod Single
-- the same, stated of all the clauses at once
pub mod Lone
