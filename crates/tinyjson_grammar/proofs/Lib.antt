-- The machine accepts exactly the texts of the grammar, each with its tree, and its errors say what they must.
pub mod Sound
pub mod Memory
pub mod Theorem
pub mod Prefix
pub mod Accepts
pub mod Step
pub mod Trace
-- What a text gives is a sound tree, no deeper than the text.
pub mod ReadTrees
-- What the text of a tree is read as, and finite maps of members.
pub mod Texts
pub mod Members
pub mod JoinedMembers
-- For proofs of callers.
pub mod Callers
-- Positions, and the words of errors.
pub mod Positions
pub mod Messages
