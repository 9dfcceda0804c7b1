pub mod Recorded
pub mod Texts
pub mod FaultTurns
