pub mod Functions
pub mod Known
pub mod Modules
pub mod PacketsOut
pub mod Parties
pub mod Places
pub mod Programs
