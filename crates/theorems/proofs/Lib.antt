pub mod Room
pub mod NestedLaws
pub mod Opened
pub mod NestingMoves
pub mod NestingSteps
pub mod Nesting
pub mod Numbers
pub mod Answered
