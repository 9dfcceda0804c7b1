pub mod ToldWords
