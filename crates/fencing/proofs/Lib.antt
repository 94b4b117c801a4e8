pub mod Marks
pub mod Putting
pub mod AllParts
pub mod PatchedValid
pub mod PatchedEntered
pub mod PatchedFenced
pub mod Written
