pub mod KeptPipes
pub mod SlotPipes
pub mod SlotCalls
pub mod AfterRequests
pub mod Histories
pub mod PipeTurns
pub mod KeptTurns
pub mod RequestsInTurns
