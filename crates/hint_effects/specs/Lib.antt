pub mod Effects
pub mod Stamped
pub mod Sums
