-- What proofs on top need: the bytes before the first of some kind.
pub use Rattle.text_uri.proofs.Cuts.{IsWide, before_at_most, drop_before, take_before, wide_end, wide_here, wide_turn}
