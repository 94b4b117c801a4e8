pub mod Records
pub mod Pen
pub mod Writer
pub mod Counted
