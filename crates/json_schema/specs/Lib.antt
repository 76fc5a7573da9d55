pub mod Failures
pub mod Names
pub mod Options
pub mod Report
pub mod Run
pub mod Told
pub mod Verdicts
pub mod Meta
