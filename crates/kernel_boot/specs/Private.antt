pub mod BootWords
