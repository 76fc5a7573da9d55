-- The part that tokens name in a text, and the key of a member: where they begin.
pub mod Scanning
pub mod Splitting
pub mod Finding
pub mod Members
pub mod Parts
pub mod Walking
pub mod Keys
pub mod Keyed
pub mod Placing
pub mod KeyPlacing
