pub mod Beginnings
pub mod Callers
pub mod Passing
pub mod Pieces
pub mod Steps
