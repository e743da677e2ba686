pub mod Leave
pub mod Marker
pub mod ByteOrderMark
pub mod End
