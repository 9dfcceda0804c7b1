pub mod OtherParts
pub mod Adoption
pub mod Passes
pub mod ClaimCounts
pub mod ClaimableStore
