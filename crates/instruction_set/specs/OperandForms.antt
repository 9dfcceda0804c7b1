pub mod Decoded
pub mod Even
pub mod Offset
pub mod BytesAt
pub mod Steps
