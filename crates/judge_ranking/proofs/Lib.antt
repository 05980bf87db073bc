pub mod RankedLaws
pub mod RankingSums
pub mod RankingTotals
