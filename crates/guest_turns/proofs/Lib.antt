pub mod MarkedWords
pub mod GuardedLists
pub mod EndedFunction
pub mod TurnParts
pub mod RunningField
pub mod CallFields
pub mod TurnFields
pub mod FaultedTurn
