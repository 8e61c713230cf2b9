pub mod Did
pub mod Carried
