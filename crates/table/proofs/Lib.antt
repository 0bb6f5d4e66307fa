pub mod Answers
pub mod Words
pub mod Tables
pub mod Round
pub mod Asked
pub mod Faults
pub mod Promises
