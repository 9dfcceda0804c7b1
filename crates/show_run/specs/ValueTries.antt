pub mod Settings
pub mod Spans
pub mod Outcomes
pub mod Groups
pub mod TryWords
pub mod TryTexts
pub mod Runs
pub mod TriesAnswers
