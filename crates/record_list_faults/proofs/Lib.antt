pub mod ListedFields
pub mod ListRuns
