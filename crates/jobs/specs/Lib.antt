pub mod Closes
pub mod Few
pub mod Status
pub mod Done
