pub mod Groups
pub mod Answers
pub mod Was
