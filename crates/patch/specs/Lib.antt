pub mod Patching
pub mod Accepting
