pub mod SessionGenerator
pub mod DumpLines
pub mod AnswerParts
pub mod FrontPlace
pub mod NotedRuns
pub mod OneAnswer
pub mod ContinuedRuns
pub mod TracedHistories
