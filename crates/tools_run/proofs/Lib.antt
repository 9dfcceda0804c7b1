pub mod AnswerParts
pub mod OneAnswer
pub mod ToldAnswers
