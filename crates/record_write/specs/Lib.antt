-- when a record can be written out, and what is told of it
pub mod WrittenOut
