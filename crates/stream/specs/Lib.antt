pub mod Phase
pub mod Words
pub mod Start
pub mod ScansOn
pub mod Holds
pub mod Run
