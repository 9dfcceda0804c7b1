pub mod Chains
pub mod CutLines
pub mod ItemEnds
pub mod Rules
