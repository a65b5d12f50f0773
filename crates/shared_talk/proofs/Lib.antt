pub mod Own
pub mod Turning
pub mod Working
pub mod Closing
pub mod Dealing
pub mod Alone
