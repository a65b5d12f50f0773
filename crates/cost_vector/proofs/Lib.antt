pub mod Rows
pub mod Parts
pub mod Starts
pub mod Words
pub mod TermTexts
pub mod LevelTexts
pub mod Readings
pub mod Additions
