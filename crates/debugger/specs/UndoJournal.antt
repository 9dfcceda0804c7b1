pub mod Journals
pub mod FormerWords
pub mod KeptPast
pub mod KeptJournal
pub mod Private
