pub mod Applying
pub mod Splitting
