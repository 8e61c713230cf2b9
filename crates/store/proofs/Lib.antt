pub mod Records
pub mod Holding
pub mod Zeros
pub mod Places
pub mod Written
