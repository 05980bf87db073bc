-- what a reading makes of a record that has been checked
pub mod Unpacks
