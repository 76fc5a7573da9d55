-- What ends a run.
pub mod Characters
pub mod Scan
