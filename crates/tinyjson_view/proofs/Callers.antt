-- For proofs of callers: trees by their kinds and their parts, trees of values, members that lists have, and loops
-- over lists.
pub use Rattle.tinyjson_view.proofs.Filling.{drop_at, drop_past}
pub use Rattle.tinyjson_view.proofs.Listed.{member_found, nth_tree}
pub use Rattle.tinyjson_view.proofs.Shapes.{array_is, object_is, number_is, string_is, key_at, some_mapped, view_compact, views_compact}
pub use Rattle.tinyjson_view.proofs.Shapes.{sorted_in, value_sound}
