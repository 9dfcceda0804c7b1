pub mod BegunTask
pub mod ResidentKernel
pub mod BootFiles
pub mod BootTasks
pub mod EmptyKernel
pub mod Private
