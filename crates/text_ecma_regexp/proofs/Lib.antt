pub mod Regexes
pub mod Digits
pub mod Groups
pub mod CaptureNames
