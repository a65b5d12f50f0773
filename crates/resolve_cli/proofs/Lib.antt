pub mod Accepted
pub mod Beginning
pub mod Ended
pub mod Threads
pub mod Complete
pub mod Sure
pub mod Enumerated
