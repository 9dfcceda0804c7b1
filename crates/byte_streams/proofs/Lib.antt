pub mod AppendedTexts
pub mod FailedPrint
pub mod GatheredTexts
