pub mod Words
pub mod Indicator
