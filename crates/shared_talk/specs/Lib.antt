pub mod Shared
pub mod Turns
pub mod Passes
