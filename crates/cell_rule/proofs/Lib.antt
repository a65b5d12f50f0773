pub mod Basics
pub mod Keeps
pub mod StopKeeps
