pub mod CapPlaces
pub mod Searches
pub mod Merges
