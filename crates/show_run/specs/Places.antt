pub mod Hunks
pub mod Sessions
