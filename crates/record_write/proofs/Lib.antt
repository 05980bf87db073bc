pub mod WritingWays
pub mod OneAnswer
pub mod RoundTrips
pub mod RoomTails
