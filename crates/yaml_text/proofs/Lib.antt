pub mod Utf8Laws
pub mod ByteLaws
pub mod Utf8Both
pub mod DecodeLaws
