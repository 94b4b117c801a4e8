pub mod Tested
pub mod Meeting
