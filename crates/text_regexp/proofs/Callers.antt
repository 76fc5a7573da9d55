-- Lemmas for crates that call this one.
pub use Rattle.text_regexp.proofs.Building.{ok_as, all_mean_push}
