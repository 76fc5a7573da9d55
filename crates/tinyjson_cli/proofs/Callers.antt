-- For proofs of callers: compact or indented text, and a list from one element on.
pub use Rattle.tinyjson_cli.proofs.Joining.{drop_one}
pub use Rattle.tinyjson_cli.proofs.Layouts.{is_compact, is_indented}
