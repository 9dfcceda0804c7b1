pub mod BegunKernels
pub mod BootedKernels
pub mod DispatchedParts
pub mod FirstParts
pub mod LoadedDiscs
pub mod LoadedParts
pub mod ReadyTasks
