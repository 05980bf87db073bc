-- the bytes of a body, and when they can be written
pub mod Bodies
