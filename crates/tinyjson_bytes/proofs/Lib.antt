-- Runs of bytes, copies and comparisons, seen a vector at a time.
pub mod Comparisons
pub mod Scans
pub mod Vectors
-- For proofs of callers.
pub mod Callers
