pub mod Laws
pub mod Climbs
