pub mod Store
pub mod Counts
