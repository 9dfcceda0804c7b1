pub mod ResidentRequests
pub mod FileHandler
pub mod PipeHandler
pub mod FaultReporter
pub mod ConsoleHandler
