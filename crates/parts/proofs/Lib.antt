pub mod Scratch
pub mod Writing
