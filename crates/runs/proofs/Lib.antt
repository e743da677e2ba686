pub mod Passing
pub mod Percent
pub mod Writing
