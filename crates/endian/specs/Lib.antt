-- numbers as bytes, the lowest first, and two's complement
pub mod Numbers
