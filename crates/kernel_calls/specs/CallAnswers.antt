pub mod Refusals
pub mod Guests
pub mod Callers
pub mod CallChange
pub mod Tasks
pub mod Modules
pub mod Outside
