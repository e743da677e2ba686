pub mod On
pub mod Statuses
