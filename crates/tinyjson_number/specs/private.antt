-- What only private contracts cite.
pub mod Limbs
pub mod Power
pub mod Scan
