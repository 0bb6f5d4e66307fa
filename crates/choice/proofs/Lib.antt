pub mod Table
pub mod Tallies
pub mod Choice
