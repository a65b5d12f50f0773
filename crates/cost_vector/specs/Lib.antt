pub mod Additions
pub mod Rows
pub mod Grammar
pub mod Reading
pub mod SpecEnds
