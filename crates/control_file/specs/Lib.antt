pub mod Text
pub mod Answers
pub mod Fields
pub mod Passes
pub mod Laws
pub mod Tags
pub mod Raw
pub mod Kept
