pub mod Arithmetic
pub mod Bytes
pub mod Row
pub mod Count
