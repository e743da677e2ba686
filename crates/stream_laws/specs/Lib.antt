pub mod Driven
pub mod Notes
pub mod Sought
pub mod Next
pub mod Middle
pub mod Loop
pub mod Laid
