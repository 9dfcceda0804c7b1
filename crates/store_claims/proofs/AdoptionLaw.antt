pub mod OneKernel
pub mod HeldChains
pub mod AllPasses
pub mod BlockData
pub mod OwnedOnce
pub mod WordCounts
pub mod ClaimableStore
