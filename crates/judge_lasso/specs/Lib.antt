-- what a lasso's test tells
pub mod LassoBy
-- the lasso that bytes hold
pub mod LassoHeld
-- the lasso of a record as it lies
pub mod LassoAt
