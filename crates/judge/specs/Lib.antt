-- a sound loop record
pub mod LoopSound
-- what judging's functions know of sound records
pub mod SoundPairs
