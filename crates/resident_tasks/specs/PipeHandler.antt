pub mod RequestTypes
pub mod Ends
pub mod PipeCalls
pub mod Histories
pub mod PipeTurns
pub mod PacketRequests
pub mod Slots
