pub mod VersionOrder
pub mod Versions
