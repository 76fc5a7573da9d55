-- What only private contracts cite: of a value that is being changed, its changes, and what is left of it.
pub mod Edited
pub mod Changes
pub mod Opening
pub mod Applying
pub mod Writing
pub mod Text
pub mod Counting
