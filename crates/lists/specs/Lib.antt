pub mod Members
pub mod Sets
pub mod Below
pub mod Sublists
pub mod Distinct
