pub mod Sets
pub mod Rows
pub mod Slots
pub mod Sessions
pub mod Finding
pub mod Outcomes
pub mod Claims
