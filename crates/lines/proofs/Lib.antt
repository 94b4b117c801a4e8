pub mod Putting
pub mod Growing
pub mod Decimal
pub mod Examples
