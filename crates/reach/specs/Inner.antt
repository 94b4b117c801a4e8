pub mod Whole
pub mod Links
