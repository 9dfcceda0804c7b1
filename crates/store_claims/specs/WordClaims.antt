pub mod Marks
pub mod ClaimableLists
