pub mod OneValue
pub mod StandardBox
pub mod RegularBox
pub mod Boxes
pub mod Soft
pub mod Weights
pub mod Lengths
pub mod Turns
