pub mod Far
pub mod Courses
pub mod Levels
pub mod Descent
