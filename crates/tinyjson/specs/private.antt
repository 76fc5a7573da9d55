-- What only private contracts and proofs cite.
pub mod Comparison
pub mod Steps
pub mod Building
pub mod Stack
pub mod Encoding
pub mod Sorted
pub mod Members
pub mod Copy
pub mod Rows
