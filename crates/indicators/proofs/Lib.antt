pub mod Levels
pub mod One
pub mod Roll
pub mod Block
pub mod Value
pub mod Longer
