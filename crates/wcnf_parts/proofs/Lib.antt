pub mod Passing
pub mod Scratch
