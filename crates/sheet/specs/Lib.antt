pub mod Keys
pub mod Sheet
pub mod Room
