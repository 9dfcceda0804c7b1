pub mod WordClaims
pub mod ListClaims
pub mod AdoptionLaw
