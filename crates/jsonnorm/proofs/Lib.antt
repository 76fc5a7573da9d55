pub mod Asking
pub mod Limits
pub mod Running
