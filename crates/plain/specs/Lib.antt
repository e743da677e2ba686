pub mod Text
