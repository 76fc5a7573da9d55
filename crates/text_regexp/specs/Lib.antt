pub mod Forms
pub mod Marked
pub mod Building
pub mod Automata
pub mod Automaton
pub mod Work
