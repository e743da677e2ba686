pub mod Number
pub mod Kind
