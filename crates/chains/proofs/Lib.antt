pub mod Unset
pub mod Paths
pub mod Starting
pub mod Rounds
pub mod Levels
pub mod Going
pub mod Strides
pub mod Courses
