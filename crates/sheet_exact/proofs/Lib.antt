pub mod Pairs
pub mod Round
