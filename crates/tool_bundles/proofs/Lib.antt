pub mod WordsAfter
