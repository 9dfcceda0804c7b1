pub mod IdleRounds
