pub mod Accept
pub mod Inner
