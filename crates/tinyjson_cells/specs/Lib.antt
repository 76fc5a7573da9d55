-- Ranges of texts, and which tree a cell stands for.
pub mod Texts
pub mod Cell
-- The order of members.
pub mod Order
-- The keys and values of an object, in the order of the text.
pub mod Entries
