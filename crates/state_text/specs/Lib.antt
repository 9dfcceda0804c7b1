pub mod ProgramNames
pub mod PacketTexts
pub mod AwaitedPackets
pub mod TaskTexts
pub mod ModuleTexts
pub mod Runner
pub mod Deadlock
pub mod StateText
