pub mod BlockSums
pub mod LargestRun
pub mod LineLengths
pub mod ListedFiles
pub mod ListedTasks
