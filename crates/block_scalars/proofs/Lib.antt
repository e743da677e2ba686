pub mod Scalars
pub mod Scans
