-- What proofs on top need: an error that says nothing of depth.
pub use Rattle.tinyjson_schema.proofs.Deep.{raised_alone}
