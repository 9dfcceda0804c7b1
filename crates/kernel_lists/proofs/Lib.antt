pub mod LinkedList
pub mod OwnedWords
pub mod GetvecChain
pub mod TaskBlock
pub mod PacketQueue
pub mod HunkLoader
pub mod Coroutines
