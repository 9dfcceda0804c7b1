pub mod Stepped
pub mod GuestSteps
pub mod GuestWrites
pub mod ResidentSteps
pub mod Step
pub mod Parts
pub mod Quiet
