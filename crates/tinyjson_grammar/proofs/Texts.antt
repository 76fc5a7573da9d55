-- The text of a tree is a text of the grammar, with that tree.
pub mod QuotedTrip
pub mod TreeTrip
pub mod WrittenTexts
