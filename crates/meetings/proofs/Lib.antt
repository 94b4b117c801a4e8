pub mod Counted
pub mod Living
