pub mod Brief
pub mod Counts
pub mod Ends
pub mod Faults
pub mod Kinds
pub mod Messages
pub mod Missing
pub mod Nearest
pub mod Refused
pub mod Words
-- All that a value violates of a schema.
pub mod Every
-- What a value violates of a schema.
pub mod Finds
-- The report of a value that is not valid.
pub mod Report
-- The same with a line and a column.
pub mod Located
-- The verdict on a text.
pub mod Verdicts
-- The verdict on a schema.
pub mod Meta
