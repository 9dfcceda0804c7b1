pub mod FilledTexts
pub mod Places
pub mod PrintedBytes
pub mod ReadExpressions
pub mod ReadTokens
pub mod SaidExpressions
pub mod ShortValues
