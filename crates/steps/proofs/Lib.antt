pub mod Events
pub mod Requests
pub mod Claims
