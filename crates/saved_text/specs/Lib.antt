pub mod SavedLines
pub mod Canonical
pub mod Files
pub mod FirstError
pub mod ImageForm
pub mod ImageOfText
pub mod Places
pub mod Ranges
