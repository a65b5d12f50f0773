pub mod Hashes
pub mod TextTables
pub mod Names
pub mod Listed
