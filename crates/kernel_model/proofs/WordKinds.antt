pub mod Marks
pub mod KnownWords
pub mod ToldWords
pub mod OwnedMarks
