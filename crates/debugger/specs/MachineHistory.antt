pub mod Pasts
pub mod FilesBefore
pub mod Moments
pub mod Histories
