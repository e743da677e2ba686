pub mod CodePoint
pub mod Escaped
pub mod Parts
