pub mod Options
pub mod Part
