pub mod Stands
pub mod Lines
