pub mod Answer
pub mod Args
pub mod Cut
pub mod Line
pub mod Refusal
pub mod Template
