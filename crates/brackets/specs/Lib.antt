pub mod Emit
pub mod Words
