pub mod Drawing
pub mod Offering
