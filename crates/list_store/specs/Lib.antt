pub mod Listed
pub mod Answers
