pub mod SavedImage
pub mod Numbers
pub mod Private
