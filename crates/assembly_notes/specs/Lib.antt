pub mod Flows
pub mod Lines
pub mod NamedTexts
pub mod Notes
pub mod WordLabels
