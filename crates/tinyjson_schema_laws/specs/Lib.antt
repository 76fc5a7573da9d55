pub mod Laws
pub mod Scoped
pub mod Short
