pub mod Answering
pub mod Callers
mod Ending
pub mod Finishing
pub mod Joining
pub mod Layouts
pub mod Progress
pub mod Replacing
pub mod Valuing
