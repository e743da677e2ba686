pub mod Walk
pub mod Breaks
pub mod Span
pub mod Row
pub mod Line
pub mod Spaces
pub mod Gap
pub mod Answers
