pub mod Chain
pub mod Linked
pub mod Places
pub mod Walk
