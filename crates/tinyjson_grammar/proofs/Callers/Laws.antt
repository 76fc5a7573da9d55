-- For the laws, whose proofs go on from these: what was read up to each state of the machine, what
-- each step and each rule of the grammar says.
pub use Rattle.tinyjson_grammar.proofs.Accepts.Number.{run_spelling, last_stage, end_finishes, run_integer, stage_of}
pub use Rattle.tinyjson_grammar.proofs.Accepts.Runs.{continues, continues_digit, continues_point, continues_letter, settle}
pub use Rattle.tinyjson_grammar.proofs.Accepts.String.{paired_cons, paired_append, scalar_no_surrogate, escape_no_surrogate, some_unwrap}
pub use Rattle.tinyjson_grammar.proofs.Accepts.String.{plain_no_quote, plain_no_backslash, plain_no_control}
pub use Rattle.tinyjson_grammar.proofs.Accepts.Text.{only_tree, text_accepted, rules, loose_accepted, no_text}
pub use Rattle.tinyjson_grammar.proofs.Accepts.Value.{Begins, begins_append, numeral_begins, text_begins, run_value, ends, Ends}
pub use Rattle.tinyjson_grammar.proofs.Accepts.Value.{first_array, first_object, last_element_assoc, element_assoc, last_pair_assoc}
pub use Rattle.tinyjson_grammar.proofs.Accepts.Value.{pair_assoc}
pub use Rattle.tinyjson_grammar.proofs.Prefix.ErrorFree.{viable_before, error_free, placed}
pub use Rattle.tinyjson_grammar.proofs.Prefix.Loose.{strict_key}
pub use Rattle.tinyjson_grammar.proofs.Prefix.Unviable.{cut_off_end, refused_key}
pub use Rattle.tinyjson_grammar.proofs.Prefix.Viable.{error_free_place, error_free_point, error_free_letter}
pub use Rattle.tinyjson_grammar.proofs.Sound.{denies, is_unviable, Reached, reached_next, step_spells, spells_viable, start_spells}
pub use Rattle.tinyjson_grammar.proofs.Sound.{run_next}
pub use Rattle.tinyjson_grammar.proofs.Step.First.{fits_within, level_frames}
pub use Rattle.tinyjson_grammar.proofs.Step.Statement.{Follows, loosely}
pub use Rattle.tinyjson_grammar.proofs.Texts.TreeTrip.{IsWhiteIndent}
pub use Rattle.tinyjson_grammar.proofs.Texts.WrittenTexts.{written_text, from_text}
pub use Rattle.tinyjson_grammar.proofs.Trace.Paths.{Path, outside, item_in, key_in, value_in, path_text, level, IsPath, within_le, closes}
pub use Rattle.tinyjson_grammar.proofs.Trace.Paths.{closing, path_frames}
pub use Rattle.tinyjson_grammar.proofs.Trace.State.{loosely_from, Read, at_first, at_awaited, in_literal, in_digits, in_quoted, at_after}
pub use Rattle.tinyjson_grammar.proofs.Trace.State.{Part, part_stage, part_numeral, read_frames, read_phase, IsRead, IsFresh, values}
pub use Rattle.tinyjson_grammar.proofs.Trace.State.{part_minus, part_integer, part_point, part_fraction, part_letter, part_sign}
pub use Rattle.tinyjson_grammar.proofs.Trace.State.{part_exponent, read_text, IsWithinLiteral, Spells, exponent_with}
pub use Rattle.tinyjson_grammar.proofs.ReadTrees.{depth_is}
