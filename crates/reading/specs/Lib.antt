pub mod Reading
pub mod Scalars
pub mod Answers
pub mod Puts
