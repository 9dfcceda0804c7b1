pub mod NamedFiles
pub mod HandledCalls
pub mod FileTurns
pub mod EndedRequests
