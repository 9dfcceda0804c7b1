pub mod BlockHunks
pub mod MachineHunks
