-- For proofs of callers: what stays while the store grows, runs of the texts, short numbers, and members in the order of their keys.
pub use Rattle.tinyjson_cells.proofs.Gathered.{gathered, gathered_by, put_last}
pub use Rattle.tinyjson_cells.proofs.Growing.{are_still, grows_none, is_still, members_still, text_stays}
pub use Rattle.tinyjson_cells.proofs.Rising.{rise_lasts, rise_ordered}
pub use Rattle.tinyjson_cells.proofs.Slices.{part_empty, run_part, slice_rest, text_part}
pub use Rattle.tinyjson_cells.proofs.Stored.{number_bytes}
