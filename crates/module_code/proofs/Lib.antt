pub mod Causes
pub mod LastWords
