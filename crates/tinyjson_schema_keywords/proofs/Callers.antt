-- What proofs on top need: the keywords of a schema by their names, the names of schemas, and loops over items and members.

-- ---- names as bytes and as characters
pub use Rattle.tinyjson_schema_keywords.proofs.Lookups.{at_literal, at_name, name_ascii, name_chars, text_bytes}
-- ---- a word gathered character by character
pub use Rattle.tinyjson_schema_keywords.proofs.Words.{word_gathered}
-- ---- the anchors of a document
pub use Rattle.tinyjson_schema_keywords.proofs.Naming.{anchors_had, no_plain_name, plain_name}
-- ---- the members of a map in the order of their keys, and how deep they and items are
pub use Rattle.tinyjson_schema_keywords.proofs.Listed.{Listed, listed_found, listed_sorted}
pub use Rattle.tinyjson_schema_keywords.proofs.Depths.{items_depth_at, items_in_depth, listed_depth, members_in_depth}
-- ---- the parts of a value, by the form that it needs
pub use Rattle.tinyjson_schema_keywords.proofs.Stepping.{IsWay, part_depth, part_step}
-- ---- one turn of a loop over a list, and its end
pub use Rattle.tinyjson_schema_keywords.proofs.Turns.{drop_suc, drop_item, drop_end, turn_next, turn_stop, turn_end, count_next, count_end}
pub use Rattle.tinyjson_schema_keywords.proofs.Turns.{nth_item}
