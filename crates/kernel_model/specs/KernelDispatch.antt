pub mod Dispatch
pub mod Turn
pub mod Private
