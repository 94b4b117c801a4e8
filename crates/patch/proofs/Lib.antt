pub mod MapRules
pub mod WriteRules
pub mod JudgeRules
pub mod Promises
pub mod PutBack
pub mod ReadsBack
pub mod DemandThree
pub mod Proposal
