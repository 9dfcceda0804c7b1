pub mod Addresses
pub mod Answers
pub mod Lines
pub mod Loaded
pub mod MapForm
pub mod MapOfText
pub mod Refusals
pub mod Statements
