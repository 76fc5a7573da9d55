pub mod Runs
pub mod Categories
pub mod Names
