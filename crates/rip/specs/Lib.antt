-- an answer as fields that are numbers
pub mod Flat
