pub mod ByteOf
pub mod Rows
pub mod Wide
pub mod Counts
pub mod Elements
pub mod EqualTexts
