mod Cutting
mod Faulting
mod Joining
mod TokenSteps
mod Nearing
mod Needing
mod Refusing
mod Telling
mod Viewing
pub mod Reports
-- A part that is there has a place.
pub mod Placing
-- Whether a keyword forbids a member.
pub mod Forbidden
pub mod Callers
-- The tokens of indices.
pub mod Naming
-- Where violations stand in the value.
pub mod Leading
-- Texts and their values.
mod Verdicts
mod Violations
