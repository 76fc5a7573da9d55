pub mod Wording
pub mod Members
pub mod Choosing
pub mod Gathering
pub mod Strings
pub mod Wanting
pub mod Embedding
