-- the fields of 02's own, and the makers of tests
pub mod PathFields
-- kind 5: n, the paths and their rows
pub mod PathLoops
-- kind 6: components, and the multipliers of each path
pub mod PathCertificates
-- one name that opens every definition, for tables
pub mod PathComputing
