pub mod Changes
pub mod Documents
pub mod Merging
pub mod Patching
pub mod Steps
