-- Values of documents that are being changed.
pub mod Listed
pub mod Trees
pub mod Steps
pub mod Taking
pub mod Changing
pub mod Opening
pub mod Copying
pub mod Left
pub mod Pieces
pub mod Operations
pub mod Running
pub mod Counting
pub mod Taken
