pub mod Elements
pub mod Escapes
pub mod Forms
pub mod Lengths
pub mod Letters
pub mod Parties
pub mod States
pub mod Texts
