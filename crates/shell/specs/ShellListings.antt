pub mod BlockLine
pub mod Columns
pub mod FileLines
pub mod NumberLines
pub mod TaskLines
pub mod Private
