pub mod Exchange
pub mod LinkedWords
pub mod Owned
pub mod Written
