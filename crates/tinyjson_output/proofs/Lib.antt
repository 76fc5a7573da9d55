-- What is written, and what is buffered.
pub mod Written
pub mod Sending
-- The bytes of quoted strings and of numbers.
pub mod Bytes
pub mod Digits
pub mod Quotes
-- For proofs of callers.
pub mod Callers
