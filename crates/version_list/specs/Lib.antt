pub mod Releases
pub mod ReleaseLaws
pub mod Rows
pub mod Listings
