-- the list of values that a record's bytes hold
pub mod ListsHeld
