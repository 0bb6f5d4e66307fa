pub mod Places
pub mod Lines
