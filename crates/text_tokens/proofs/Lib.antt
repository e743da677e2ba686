pub mod Read
pub mod Saved
pub mod Left
