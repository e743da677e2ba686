pub mod Choice
pub mod Tells
pub mod Advance
