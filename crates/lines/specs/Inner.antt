pub mod Put
pub mod Growing
