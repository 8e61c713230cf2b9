pub mod Numbers
pub mod Stores
pub mod Sets
pub mod Search
pub mod Claims
