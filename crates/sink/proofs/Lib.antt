pub mod Storing
pub mod Pass
