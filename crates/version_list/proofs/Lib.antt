pub mod Tops
pub mod OnePackage
pub mod Others
pub mod OneStanza
pub mod OneName
pub mod Blocks
pub mod Placed
pub mod Whole
