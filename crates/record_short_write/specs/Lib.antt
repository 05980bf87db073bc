-- what the parts of the two calls leave in a room
pub mod Rooms
