pub mod Looking
pub mod Telling
