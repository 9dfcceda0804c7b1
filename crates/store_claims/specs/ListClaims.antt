pub mod BlockData
pub mod ListWords
pub mod ListEnds
