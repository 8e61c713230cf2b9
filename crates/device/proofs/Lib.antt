pub mod Modes
pub mod Claims
pub mod Responses
