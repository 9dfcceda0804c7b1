pub mod FreeStore
pub mod Getvec
pub mod Freevec
pub mod Private
