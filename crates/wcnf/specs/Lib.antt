pub mod Wcnf
pub mod Entries
