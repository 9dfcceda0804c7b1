pub mod Bundles
pub mod Entries
