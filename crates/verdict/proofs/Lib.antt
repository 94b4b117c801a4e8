pub mod Refusing
pub mod Promise
pub mod Shortest
pub mod Following
pub mod Showing
pub mod Deciding
