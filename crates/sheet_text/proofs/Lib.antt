pub mod JudgedSizes
pub mod LineSizes
pub mod SampleText
pub mod ToldSizes
pub mod TextLaws
pub mod WorstCase
pub mod WrongRooms
