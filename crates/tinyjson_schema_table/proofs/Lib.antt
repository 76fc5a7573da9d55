pub mod Callers
pub mod Givens
pub mod Held
pub mod Links
pub mod Marking
