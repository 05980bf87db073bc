-- the lists that bytes hold by their places
pub mod Lists
-- the terms of the sums, by places
pub mod Places
-- what a running sum has become
pub mod Running
-- the sums' terms, of rows and of multipliers
pub mod Terms
