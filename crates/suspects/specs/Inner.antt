pub mod Back
pub mod Suspect
