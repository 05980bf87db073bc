-- the conditions of a path by places, and what is told of it
pub mod PathByPlaces
-- the same of a path as it lies
pub mod PathHeld
