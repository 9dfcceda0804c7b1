pub mod SetValues
pub mod LongerSpans
pub mod AddedTries
pub mod Groupings
pub mod LawfulSettings
pub mod TriedValues
