pub mod Words
pub mod Beginnings
pub mod Reports
pub mod Completeness
pub mod Sureness
pub mod Enumeration
pub mod Beside
