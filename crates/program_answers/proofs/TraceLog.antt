pub mod KnownTexts
pub mod MarkedLists
pub mod NotedLists
pub mod TracedNotes
pub mod GivenLines
