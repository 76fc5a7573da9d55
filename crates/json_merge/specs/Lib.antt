pub mod Apply
pub mod Options
pub mod Reading
