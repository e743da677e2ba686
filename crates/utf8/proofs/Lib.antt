pub mod Below
pub mod Cases
pub mod Laws
