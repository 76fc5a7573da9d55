-- One step of the machine: what it says of the characters up to there.
pub mod Number
pub mod Character
pub mod Awaits
pub mod String
pub mod First
pub mod Units
pub mod Value
pub mod Statement
