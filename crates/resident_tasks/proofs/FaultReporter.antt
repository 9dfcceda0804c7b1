pub mod HeldGuest
pub mod FaultPacket
pub mod Reported
pub mod ReportLines
pub mod TakenFaults
pub mod ReportedTurn
pub mod FaultsKept
pub mod RunsKept
