pub mod Device
pub mod Cells
pub mod UserAnswers
pub mod Empty
pub mod Answers
