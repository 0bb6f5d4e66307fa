pub mod Lists
pub mod Counted
