pub mod Exchanges
pub mod HeldLists
pub mod MemberExchanges
pub mod OwnedWords
pub mod Parts
pub mod RowWords
pub mod WrittenWords
