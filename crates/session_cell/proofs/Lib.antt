pub mod Calls
pub mod PassLists
pub mod Closing
pub mod Sent
