pub mod ListPasses
pub mod KnownTasks
pub mod ConsoleLine
pub mod Private
