pub mod Letters
pub mod PropertyNames
pub mod Identifiers
pub mod Regex
pub mod Scan
