pub mod Copying
pub mod Marking
pub mod Placing
pub mod Pointing
pub mod Scoping
