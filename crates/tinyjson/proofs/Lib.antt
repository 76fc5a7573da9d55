pub mod Callers
pub mod Writing
pub mod Values
pub mod Reading
