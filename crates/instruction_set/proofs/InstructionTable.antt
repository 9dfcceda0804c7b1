pub mod EffectLemmas
pub mod EmptyLemmas
pub mod Entries
pub mod FormLemmas
pub mod NameLemmas
pub mod NamedRows
pub mod RowLemmas
pub mod ShapeLemmas
