pub mod CapOrder
pub mod Merging
