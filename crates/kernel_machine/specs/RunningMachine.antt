pub mod RepresentedKernels
pub mod Machine
pub mod Runs
pub mod PlainSteps
pub mod Script
pub mod Private
