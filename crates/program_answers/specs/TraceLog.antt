pub mod Trails
pub mod Traced
pub mod Marks
