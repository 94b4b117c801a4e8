pub mod MapFits
pub mod Putting
