pub mod WalkedKinds
