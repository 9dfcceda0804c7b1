pub mod Faults
pub mod Memory
pub mod Pending
pub mod Pieces
pub mod Read
pub mod Sinks
pub mod Standard
pub mod Write
