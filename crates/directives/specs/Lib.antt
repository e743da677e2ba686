pub mod Front
pub mod Version
pub mod Tag
pub mod Name
pub mod Line
