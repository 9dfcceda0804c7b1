pub mod PacketWords
pub mod NumberOrder
pub mod QueueChanges
pub mod DueWords
pub mod HeldQueues
