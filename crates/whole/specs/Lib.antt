pub mod Scratch
pub mod Verdict
