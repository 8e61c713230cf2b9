pub mod InTurn
pub mod Isolation
