pub mod Assertions
pub mod Distinct
pub mod Formats
pub mod Operands
