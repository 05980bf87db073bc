pub mod RoomLaws
pub mod LongRooms
pub mod ShortRooms
pub mod ConversionWays
pub mod OneAnswer
pub mod RoundTrips
