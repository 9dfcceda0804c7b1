pub mod HunkWords
pub mod Made
pub mod ReadBack
