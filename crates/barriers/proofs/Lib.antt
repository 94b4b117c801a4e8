pub mod ClearWalks
pub mod Cleared
pub mod Kept
