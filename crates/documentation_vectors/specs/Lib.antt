pub mod Nulls
