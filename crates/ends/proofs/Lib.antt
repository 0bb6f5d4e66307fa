pub mod Values
pub mod Ends
pub mod Texts
