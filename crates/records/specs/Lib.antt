pub mod Kinds
pub mod Note
pub mod Noted
