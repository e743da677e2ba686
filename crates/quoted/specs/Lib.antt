pub mod Modes
pub mod Texts
pub mod Advance
pub mod After
