pub mod JoinedRuns
pub mod TakenStore
pub mod TakenWords
pub mod TakenBlock
pub mod IdleBlocks
pub mod BlockUses
pub mod GivenBlock
