pub mod FurtherNames
pub mod GatheredLines
pub mod KernelStates
pub mod ListedWords
pub mod LoadedWords
pub mod StillSteps
