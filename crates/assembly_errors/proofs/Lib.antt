mod DraftedLines
mod FirstErrors
mod FollowedLeads
mod LikeNames
pub mod ToolAnswers
mod WiderNames
