pub mod Hinting
pub mod CostNames
pub mod Prices
pub mod Scenes
pub mod Rows
