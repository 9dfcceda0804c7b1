pub mod NewTasks
pub mod PacketsOut
