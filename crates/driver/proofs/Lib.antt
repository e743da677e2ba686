pub mod Words
pub mod Halts
pub mod Driven
pub mod Driving
pub mod Taken
pub mod Leaving
pub mod Looping
