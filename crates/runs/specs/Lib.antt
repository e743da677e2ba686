pub mod Encode
pub mod Run
pub mod RunLaws
