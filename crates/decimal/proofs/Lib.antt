pub mod DecimalLaws
pub mod Ends
pub mod RoomLaws
pub mod TextLaws
