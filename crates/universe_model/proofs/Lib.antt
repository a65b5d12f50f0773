pub mod Orders
pub mod Samples
pub mod RowsThree
