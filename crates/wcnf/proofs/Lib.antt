pub mod Lines
pub mod Signed
pub mod Named
pub mod Parts
