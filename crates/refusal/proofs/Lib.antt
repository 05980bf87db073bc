pub mod TestLaws
pub mod PlaceLaws
pub mod FaultLaws
