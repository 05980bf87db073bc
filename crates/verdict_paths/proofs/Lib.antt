-- accepted exactly when
pub mod PathsAccepted
-- fields at places, taken apart and put together
pub mod FieldsAtPlaces
-- what sound records hold is within the limits, and well-formed
pub mod PathsInRange
-- demand 3 about bytes, and the other kinds
pub mod PathDemands
-- what a refusal by a condition means
pub mod PathsToldExactly
-- the promises, said of samples' bytes
pub mod PathSamples
-- bytes put together from parts, and read again
pub mod PartsOfBytes
-- the bytes of values within the limits are sound and hold them
pub mod PathsReadBack
pub mod ArgumentsReadBack
-- in values: every proposal in range that meets the conditions is accepted
pub mod PathsInValues
-- the edges
pub mod PathVerdictEdges
-- wrong judges
pub mod WrongPathJudges
