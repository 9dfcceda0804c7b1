pub mod ClaimedQueue
pub mod Places
pub mod Reports
