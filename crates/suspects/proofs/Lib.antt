pub mod Reached
pub mod Pairs
pub mod OnChain
pub mod LeadingBack
pub mod Suspected
pub mod RmwInside
