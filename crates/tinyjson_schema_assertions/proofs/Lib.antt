pub mod Counted
pub mod Counts
-- How many characters and how many bytes a string has.
pub mod Lengths
pub mod Formatted
pub mod Operands
pub mod Patterns
pub mod SeenTexts
