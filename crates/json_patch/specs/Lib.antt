pub mod Apply
pub mod Reading
