-- For proofs of callers: how one step leads to the next, and what the machine says at white space and at the end.
pub use Rattle.tinyjson_tokens.proofs.Reading.Steps.{Comes_outcome, Halts_here, Leads_end, Leads_nil, Leads_one}
pub use Rattle.tinyjson_tokens.proofs.Reading.Steps.{Leads_shown, Leads_to, Leads_trans, Leads_whites, Reads_after, Refuses_after}
pub use Rattle.tinyjson_tokens.proofs.Reading.Steps.{Refuses_as, Refuses_memory, taken_complete}
pub use Rattle.tinyjson_tokens.proofs.Reading.Steps.{end_after, end_awaited, end_colon, end_first, invalid, no_end}
pub use Rattle.tinyjson_tokens.proofs.Reading.Steps.{white_after, white_awaited, white_colon, white_finished, white_first}
-- The text of a string to which a character was added.
pub use Rattle.tinyjson_tokens.proofs.Units.{text_push}
