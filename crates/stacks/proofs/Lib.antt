pub mod Entries
pub mod Drops
pub mod Rolls
pub mod Frames
pub mod Levels
pub mod Longer
