pub mod Alphabets
pub mod Naming
pub mod Sayings
pub mod Printing
