pub mod Rounds
pub mod Trails
pub mod Loading
pub mod Sweeps
pub mod Steps
pub mod Thinned
pub mod Staying
