pub mod Addresses
pub mod Changes
pub mod Fields
pub mod Frames
pub mod Runs
pub mod ShownBytes
pub mod Words
