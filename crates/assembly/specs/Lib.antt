pub mod AssemblyText
pub mod ModuleListing
pub mod PlainCode
pub mod Source
