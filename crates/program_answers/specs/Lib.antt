pub mod TraceLog
pub mod Answer
pub mod Answered
pub mod Cause
pub mod Exit
pub mod Input
pub mod Texts
