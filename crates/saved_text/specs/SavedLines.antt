pub mod Canonical
pub mod Heads
pub mod HexText
pub mod Seen
pub mod Statements
