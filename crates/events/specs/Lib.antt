pub mod Event
pub mod Weighed
pub mod Laid
pub mod Count
