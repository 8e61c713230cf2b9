pub mod Numbers
pub mod Sets
pub mod Search
