pub mod Tree
pub mod Stands
pub mod Inner
