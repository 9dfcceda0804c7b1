pub mod Guarded
pub mod GuestTurn
