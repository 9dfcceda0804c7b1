pub mod TraceLog
pub mod AnswerParts
