pub mod Alphabet
pub mod Lines
pub mod Sayings
pub mod Texts
