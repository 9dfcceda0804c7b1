pub mod SessionRuns
pub mod OneStop
pub mod ToldOrders
