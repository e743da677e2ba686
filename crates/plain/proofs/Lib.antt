pub mod Ends
pub mod First
pub mod On
pub mod TextTurns
