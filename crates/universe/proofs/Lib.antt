mod Zips
mod Kept
mod Walks
mod Owned
mod Halves
mod Ordered
mod ListedAt
mod Built
mod Making
mod Whole
pub mod FirstBytes
