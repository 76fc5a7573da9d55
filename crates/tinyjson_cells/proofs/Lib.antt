-- A cell stands for the same tree while the store grows.
pub mod Growing
-- Slices up to the end.
pub mod Slices
-- The order of members.
pub mod Order
-- Short numbers.
pub mod Stored
-- What a sorted object keeps.
pub mod Gathered
-- Members whose keys rise.
pub mod Rising
-- Members that were picked from others.
pub mod Picked
-- The member with a key, by bisection.
pub mod Finding
-- Texts that grow by more than is meant.
pub mod Appending
-- For proofs of callers.
pub mod Callers
