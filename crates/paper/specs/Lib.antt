pub mod Published
pub mod Refinement
