pub mod Marks
pub mod Written
pub mod Inner
