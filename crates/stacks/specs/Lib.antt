pub mod Stack
pub mod Bit
pub mod Most
pub mod Indent
pub mod Frame
pub mod Roll
