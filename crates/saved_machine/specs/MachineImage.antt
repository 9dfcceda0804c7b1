pub mod Placed
pub mod Parts
pub mod Machines
pub mod Private
