pub mod DispatchWords
