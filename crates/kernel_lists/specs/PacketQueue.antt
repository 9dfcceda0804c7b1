pub mod Log
pub mod KeptEvents
pub mod EventLine
pub mod LineNote
pub mod Queue
pub mod Due
pub mod DueOrder
pub mod QueueWords
