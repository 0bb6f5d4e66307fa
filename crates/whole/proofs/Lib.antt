pub mod Whole
pub mod Scratch
