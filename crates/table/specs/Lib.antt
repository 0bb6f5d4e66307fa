pub mod Table
pub mod Words
pub mod Faults
pub mod Answers
pub mod Checked
