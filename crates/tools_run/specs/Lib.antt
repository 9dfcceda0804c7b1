pub mod InputAnswers
pub mod Leaves
pub mod ToolAnswers
pub mod Words
