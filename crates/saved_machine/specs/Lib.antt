pub mod MachineImage
pub mod ImagePrint
