pub mod Queues
pub mod SentBy
pub mod Steps
pub mod Senders
pub mod HistoryLaw
pub mod Booted
pub mod PipeRuns
