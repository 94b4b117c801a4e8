pub mod Least
pub mod Rows
pub mod Touched
pub mod Thinned
pub mod Growing
pub mod Nodes
