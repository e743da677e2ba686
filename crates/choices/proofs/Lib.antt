pub mod Laws
pub mod NextToken
pub mod Longer
