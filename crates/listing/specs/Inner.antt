pub mod Whole
pub mod Numbered
pub mod Coded
pub mod Found
