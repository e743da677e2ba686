pub mod Promise
pub mod Run
pub mod Enough
pub mod Examples
