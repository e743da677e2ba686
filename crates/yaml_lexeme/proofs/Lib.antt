pub mod BlockFits
pub mod EscapeFits
pub mod EscapeSizes
pub mod QuotedSizes
