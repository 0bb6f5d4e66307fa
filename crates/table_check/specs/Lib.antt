pub mod Highest
pub mod Reading
