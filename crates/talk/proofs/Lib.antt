pub mod Quiet
pub mod Spoken
pub mod Ending
pub mod Remaining
pub mod Costing
pub mod Running
