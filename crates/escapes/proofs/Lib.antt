pub mod Answers
pub mod Letters
pub mod Numbers
pub mod Octets
pub mod Percents
pub mod Trail
