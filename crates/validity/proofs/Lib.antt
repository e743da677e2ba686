pub mod DecodeTurns
pub mod Near
pub mod Soundness
pub mod Lengths
pub mod Blocks
