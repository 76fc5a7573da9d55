-- Prefixes: what can still become a text, and what cannot.
pub mod ErrorFree
pub mod InRange
pub mod Viable
pub mod CutOff
pub mod Unviable
pub mod Loose
