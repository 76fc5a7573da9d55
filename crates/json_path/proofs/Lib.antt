pub mod Leaving
pub mod Writing
