pub mod Chain
pub mod Contents
pub mod Disc
pub mod DiscCalls
pub mod Name
pub mod Slots
