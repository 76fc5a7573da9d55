pub mod Answers
pub mod Left
pub mod Options
pub mod Places
pub mod Query
pub mod Selected
pub mod Shapes
pub mod Without
