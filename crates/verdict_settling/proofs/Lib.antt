-- the answers by kind, case by case
pub mod SettlingBridges
-- a certificate whose L does not fit its bytes is refused alike either way
pub mod SettlingFrames
-- accepted exactly when
pub mod SettlingAccepted
-- what a sound pair holds is within the limits
pub mod SettlingInRange
-- demand 3 about bytes, and the other kinds
pub mod SettlingDemands
-- what a refusal by a condition means
pub mod SettlingToldExactly
-- the bytes of values within the limits are sound and hold them
pub mod SettlingReadBack
-- in values: every settling in range that meets the conditions is accepted
pub mod SettlingInValues
-- the promises, said of samples' bytes
pub mod SettlingSamples
-- the edges
pub mod SettlingEdges
-- wrong judges
pub mod WrongSettlingJudges
