pub mod HeadLines
pub mod HexTexts
pub mod LineFields
pub mod PrintParts
pub mod PrintedLines
pub mod StatementLines
