pub mod Tick
pub mod Typed
pub mod Keys
pub mod Printed
