pub mod KernelRecord
pub mod WordKinds
pub mod KernelDispatch
