pub mod Encoding
pub mod Inside
pub mod Inversion
