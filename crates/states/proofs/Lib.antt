pub mod Keys
pub mod Longer
