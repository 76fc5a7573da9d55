pub mod Callers
pub mod Filling
pub mod Listed
pub mod Shapes
