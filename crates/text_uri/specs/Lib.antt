pub mod Letters
pub mod Parts
pub mod Dots
pub mod Resolving
pub mod Laws
pub mod Splitting
pub mod Relative
