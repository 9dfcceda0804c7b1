pub mod Block
pub mod BlockWords
pub mod Give
pub mod Make
pub mod Run
pub mod Take
pub mod Tiling
