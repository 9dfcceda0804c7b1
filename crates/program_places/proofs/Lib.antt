pub mod HunkWords
pub mod Sound
