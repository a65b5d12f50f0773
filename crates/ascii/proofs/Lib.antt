pub mod Bytes
pub mod Texts
pub mod Decimals
pub mod Wording
