-- What proofs on top need: keywords whose marks are not there, and what is known.
pub use Rattle.tinyjson_schema_table.proofs.Marking.{absent, absent_beside}
pub use Rattle.tinyjson_schema_table.proofs.Links.{got_at, known_same, known_as, same_known, self_known}
