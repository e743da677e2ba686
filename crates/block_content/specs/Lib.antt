pub mod Lines
pub mod Content
