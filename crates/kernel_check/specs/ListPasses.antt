pub mod ClaimedStore
pub mod StartMarks
pub mod Frames
pub mod Private
