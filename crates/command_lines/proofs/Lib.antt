pub mod ArgumentTemplates
mod AskedCommands
mod LineParts
mod NameCodes
mod ValuesInside
