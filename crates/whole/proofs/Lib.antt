pub mod Solve
pub mod Ring
pub mod Compare
pub mod Size
pub mod EachLaws
pub mod SumLaws
pub mod Tables
pub mod Goals
