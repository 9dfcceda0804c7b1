pub mod Answers
pub mod Fields
pub mod Lines
pub mod Numbers
pub mod Refusal
pub mod Steps
