pub mod ArgumentTemplates
pub mod Arguments
pub mod Command
pub mod CommandForm
pub mod CommandNames
pub mod Words
