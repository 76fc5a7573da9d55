pub mod Compare
pub mod Reading
