-- a job's certificates at once: what the call answers, and what the verdicts' row and the rank numbers hold afterwards
pub mod Batches
-- one name that opens every definition of a batch
pub mod BatchComputing
