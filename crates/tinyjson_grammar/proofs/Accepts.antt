-- The machine reads what the grammar spells: numbers, strings, values, texts.
pub mod Number
pub mod String
pub mod Value
pub mod Text
pub mod Runs
