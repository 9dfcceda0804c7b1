pub mod PartCases
pub mod PartLists
pub mod PlaceLemmas
pub mod PlainSources
pub mod QuotedTexts
pub mod StrangeTexts
pub mod TextLines
pub mod ToldTexts
