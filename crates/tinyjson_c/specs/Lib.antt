-- Why a text is rejected and where, as numbers.
pub mod Place
-- Why a call stops.
pub mod Stop
-- What a call writes into the caller's buffer.
pub mod Buffer
-- The message of an error at a place.
pub mod Message
-- The part of a text's tree that a pointer names.
pub mod Part
-- Texts that are lines.
pub mod Lines
-- The tree of a text with that of a patch merged into it.
pub mod Merge
-- The tree of a text after the operations of a patch.
pub mod Patch
-- What a query selects in a text.
pub mod Select
-- What a query selects in texts that are lines.
pub mod SelectLines
-- Whether a text is valid by a schema, and the report if it is not.
pub mod Schema
-- Whether texts that are lines are valid by a schema, and the reports of those that are not.
pub mod SchemaLines
