-- The readers of tokens, as steps of the machine.
pub mod String
pub mod Number
pub mod NumberParts
pub mod Numerals
pub mod Steps
pub mod Begins
pub mod Escape
