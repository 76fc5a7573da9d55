-- For proofs of callers: that the answers for patterns are right, and loops over nodes.
pub use Rattle.tinyjson_path.proofs.Judging.{judged_right}
pub use Rattle.tinyjson_path.proofs.Waits.{one_less}
pub use Rattle.tinyjson_path.proofs.Within.{from_same as error_same}
pub use Rattle.tinyjson_view.proofs.Callers.{drop_at}
