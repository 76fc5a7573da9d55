-- What only private contracts cite.
pub mod Beginnings
pub mod Pieces
