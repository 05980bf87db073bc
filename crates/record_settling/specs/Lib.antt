-- kind 8: its parts, their places, and its order of tests
pub mod SettlingRecords
