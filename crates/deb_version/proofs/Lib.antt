pub mod Beginnings
pub mod ByteTables
pub mod Cuts
pub mod Epochs
pub mod Keys
pub mod Numbers
pub mod Turns
pub mod VersionBytes
