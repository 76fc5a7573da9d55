pub mod Givens
pub mod Held
pub mod Links
pub mod Marks
pub mod Places
