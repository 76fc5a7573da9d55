-- Values, their parts and their trees.
pub mod WholeNumbers
pub mod Comparison
pub mod Equality
pub mod Entries
pub mod Copy
pub mod View
pub mod Trees
pub mod Index
pub mod Loops
pub mod Depths
pub mod Items
