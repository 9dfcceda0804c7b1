pub mod Buffers
pub mod Names
pub mod Requests
pub mod Answers
pub mod Turns
