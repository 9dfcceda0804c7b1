pub mod DrawnTexts
pub mod DrawnLengths
