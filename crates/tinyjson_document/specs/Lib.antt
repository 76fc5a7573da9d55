-- What public contracts say of documents, and the parts of a tree.
pub mod Document
pub mod Equality
pub mod Numbers
pub mod Parts
-- Which tree a cell stands for, and that there is at most one.
pub mod Known
-- Which open containers an arena has.
pub mod Holding
-- What a walk writes.
pub mod Walking
-- What a comparison has still to find the same.
pub mod Comparing
-- What is left of a value that is passed to events.
pub mod Replaying
