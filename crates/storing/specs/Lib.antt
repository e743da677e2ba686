pub mod Step
pub mod Arrive
pub mod Token
