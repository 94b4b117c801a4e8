pub mod Read
pub mod Cases
pub mod Inner
