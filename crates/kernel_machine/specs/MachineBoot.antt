pub mod Boot
pub mod Booted
