pub mod TiledWords
pub mod OpenBlocks
pub mod JoinedClaims
pub mod ListAnswers
pub mod TaskWalk
pub mod OutwardWalk
