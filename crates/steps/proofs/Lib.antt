pub mod Arms
pub mod Last
pub mod Longer
