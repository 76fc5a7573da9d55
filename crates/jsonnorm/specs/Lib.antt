pub mod Fault
pub mod Input
pub mod Options
pub mod Parsed
pub mod Run
