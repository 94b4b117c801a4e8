pub mod Lining
pub mod Sizes
pub mod Pieces
pub mod Judging
pub mod Proposing
pub mod Once
pub mod Cut
pub mod CaseA
