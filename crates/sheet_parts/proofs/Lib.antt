pub mod EndToEnd
pub mod PartLaws
