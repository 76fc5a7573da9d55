-- What was read up to each state of the machine.
pub mod Paths
pub mod State
