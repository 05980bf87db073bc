pub mod DividedLaws
