pub mod Names
pub mod Numbers
pub mod Seeds
pub mod ShapeKinds
