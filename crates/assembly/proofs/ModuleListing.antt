pub mod Covers
pub mod HunkLines
