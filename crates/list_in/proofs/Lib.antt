pub mod Tops
pub mod Answers
pub mod LineCount
pub mod Round
