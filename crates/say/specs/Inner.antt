pub mod Answers
pub mod Answering
