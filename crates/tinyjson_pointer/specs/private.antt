-- What only private contracts cite.
pub mod Keys
pub mod Parts
pub mod Scan
