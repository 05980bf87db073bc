-- how bytes end to end are cut into records
pub mod Parting
