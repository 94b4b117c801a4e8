pub mod Same
pub mod Digits
pub mod Telling
pub mod Finding
pub mod Solid
pub mod Parting
pub mod Examples
