pub mod Header
pub mod Margin
