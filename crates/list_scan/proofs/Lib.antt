pub mod ListLines
pub mod Written
