pub mod Line
pub mod Emitted
pub mod Entry
pub mod Levels
pub mod Longer
