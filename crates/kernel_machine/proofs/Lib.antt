pub mod KernelSteps
pub mod RunningMachine
pub mod MachineBoot
