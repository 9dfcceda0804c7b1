pub mod ByteMap
pub mod Keeper
pub mod Searched
pub mod Private
