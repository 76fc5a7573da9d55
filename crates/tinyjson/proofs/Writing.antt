-- The generator's functions, and the bytes that they write.
pub mod Containers
pub mod Scalars
pub mod Runs
pub mod Listed
pub mod Sorted
pub mod Text
pub mod Words
