pub mod ClaimedWords
pub mod ClaimWalk
