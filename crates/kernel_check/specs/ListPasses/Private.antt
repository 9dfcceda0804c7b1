pub mod CanPass
pub mod FreePackets
pub mod RootRules
pub mod TaskRules
