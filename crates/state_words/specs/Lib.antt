pub mod Instructions
pub mod Spans
pub mod Windows
