pub mod Callers
pub mod Cuts
mod Examples
pub mod Fronts
pub mod Marks
mod Sharing
pub mod Slashes
pub mod Steps
pub mod Whole
