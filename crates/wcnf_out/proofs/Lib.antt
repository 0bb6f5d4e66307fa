pub mod Answers
pub mod Whole
