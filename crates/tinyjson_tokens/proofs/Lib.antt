pub mod Callers
-- Sources: an iterator, and a text in memory.
pub mod Cursors
pub mod Letters
pub mod Places
pub mod Slices
pub mod Sources
pub mod Units
-- Tokens, as steps of the machine.
pub mod Reading
