pub mod Numbers
pub mod Enough
pub mod Next
pub mod Job
