pub mod Drawing
pub mod Accepting
pub mod Once
pub mod Cut
pub mod Named
pub mod Accepted
pub mod CaseE
