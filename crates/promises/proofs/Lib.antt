pub mod Outcomes
pub mod InTurn
pub mod Isolation
pub mod IsolationClaims
