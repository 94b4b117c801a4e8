pub mod Typing
pub mod Parted
pub mod Cases
pub mod Inner
