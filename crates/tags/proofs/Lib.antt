pub mod Anchors
pub mod Laying
pub mod Parts
pub mod Tags
