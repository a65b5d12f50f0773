pub mod Texts
pub mod Distinct
pub mod Numbering
pub mod Slots
pub mod Spans
