pub mod FileCalls
pub mod FileRequests
pub mod FileTurn
