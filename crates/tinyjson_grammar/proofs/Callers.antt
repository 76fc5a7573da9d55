-- For proofs of callers: what the theorem says, that a written text is read back, positions, and finite maps of members.
pub mod Laws
pub use Rattle.tinyjson_grammar.proofs.Theorem.{accepts, refuses}
pub use Rattle.tinyjson_grammar.proofs.Memory.{interrupted, interrupted_late}
pub use Rattle.tinyjson_grammar.proofs.Prefix.InRange.{ranges}
pub use Rattle.tinyjson_grammar.proofs.Accepts.Number.{letter_no_digit, letter_no_point, sign_no_digit}
pub use Rattle.tinyjson_grammar.proofs.Accepts.Runs.{digit_not_white}
pub use Rattle.tinyjson_grammar.proofs.Texts.WrittenTexts.{compact_text, one_compact}
pub use Rattle.tinyjson_grammar.proofs.Members.{cond_swap, find_below, find_put, find_remove, flip, found_first, key_same, key_total}
pub use Rattle.tinyjson_grammar.proofs.Members.{members_from_find, same_key, some_none, sorted_put, sorted_remove}
pub use Rattle.tinyjson_grammar.proofs.JoinedMembers.{IsAbove, above_join, join, join_join, put_above}
pub use Rattle.tinyjson_grammar.proofs.Positions.{advance_append, advance_nil}
pub use Rattle.tinyjson_grammar.proofs.ReadTrees.{are_put, sound_at, text_sound}
pub use Rattle.tinyjson_grammar.proofs.Messages.{code_point_text}
