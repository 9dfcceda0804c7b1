pub mod Reports
pub mod Sentences
pub mod Told
