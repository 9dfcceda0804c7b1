pub mod Breakpoints
pub mod StepsBehind
pub mod CodeLines
pub mod Instructions
pub mod Runs
pub mod WordCounts
