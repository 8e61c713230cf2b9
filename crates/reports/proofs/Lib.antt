pub mod Decimal
pub mod Texts
pub mod Reports
pub mod Parts
pub mod Claims
