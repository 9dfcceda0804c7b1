pub mod FieldLemmas
pub mod LineEnds
pub mod NumberLemmas
pub mod PlainLines
pub mod StepLemmas
