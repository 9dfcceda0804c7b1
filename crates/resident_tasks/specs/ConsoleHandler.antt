pub mod Line
pub mod KeyPacket
pub mod Reads
pub mod TurnParts
pub mod Deliveries
pub mod ConsoleTurn
