pub mod Lists
pub mod Firsts
pub mod Stores
pub mod Bits
pub mod Decimal
