pub mod TickLists
pub mod FirstDue
pub mod ReturnedPackets
pub mod WholeTick
