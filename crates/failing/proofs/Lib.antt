pub mod Needing
pub mod Searching
pub mod Seconds
