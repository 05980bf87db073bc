pub mod BodyBytes
