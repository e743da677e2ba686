pub mod Held
pub mod Behind
pub mod Step
pub mod Drives
