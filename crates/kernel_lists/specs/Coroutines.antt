pub mod CoroutineWords
pub mod Active
pub mod Coroutines
pub mod Switch
pub mod Refusals
pub mod Creation
pub mod HeldCoroutines
pub mod CoroutineExchanges
