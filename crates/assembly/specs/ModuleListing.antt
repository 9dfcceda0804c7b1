pub mod Cover
pub mod HunkListing
pub mod Lines
pub mod Listing
