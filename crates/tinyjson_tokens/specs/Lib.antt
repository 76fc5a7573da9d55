-- what contracts of sources say
pub mod Source
pub mod Cursor
pub mod Slice
-- what contracts inside the parser say
pub mod Steps
pub mod NumberSteps
pub mod Numerals
pub mod Escape
