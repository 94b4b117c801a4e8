pub mod Writing
pub mod Once
pub mod Fader
