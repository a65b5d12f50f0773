pub mod Fields
pub mod Names
pub mod Found
pub mod Stanzas
pub mod Statuses
pub mod Views
