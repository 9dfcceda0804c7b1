pub mod Draws
pub mod Generated
pub mod Trails
pub mod Tallies
pub mod Summary
