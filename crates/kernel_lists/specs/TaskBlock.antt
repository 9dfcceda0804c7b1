pub mod TaskWords
pub mod RootWords
pub mod Versions
pub mod TaskChain
pub mod Lists
pub mod Moves
pub mod HeldTasks
pub mod ChainWords
