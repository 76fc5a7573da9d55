-- What stands in compact text.
pub mod Compacting
-- The characters of a compact text.
pub mod Scalars
-- Whether a text is the compact text of its tree.
pub mod Comparing
