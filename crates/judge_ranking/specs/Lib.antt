-- what a ranking's test tells
pub mod RankedBy
-- the ranking that bytes hold
pub mod RankingHeld
-- a ranking's totals as the judge holds them
pub mod LiftedTotals
