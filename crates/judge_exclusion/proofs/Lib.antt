pub mod ExcludedLaws
