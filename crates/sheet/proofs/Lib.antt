-- the laws of a text that is handed on in parts, and of an input that is read
pub mod HandingOn
