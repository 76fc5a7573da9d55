-- What proofs on top need: what merged members have at a key, and operations in turn.
pub use Rattle.tinyjson_patch.proofs.Merging.{found_merged, sorted_merge}
pub use Rattle.tinyjson_patch.proofs.Turns.{as_many, one_applied, one_failed}
