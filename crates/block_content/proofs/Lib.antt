pub mod Ends
pub mod Wrote
pub mod Contents
