-- The parser's functions, as steps of the machine.
pub mod Containers
pub mod Parse
pub mod Building
pub mod Stack
pub mod Members
pub mod Cursors
pub mod Memory
pub mod Loop
pub mod Check
pub mod Events
pub mod Left
pub mod Becoming
