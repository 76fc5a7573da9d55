mod Cutting
pub mod Examples
pub mod Handling
pub mod Outcomes
pub mod Running
pub mod Verdicts
