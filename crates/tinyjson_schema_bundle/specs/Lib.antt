pub mod Bundles
pub mod Scopes
