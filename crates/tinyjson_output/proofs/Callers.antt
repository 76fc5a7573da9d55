-- For proofs of callers: what is written, what is buffered, and the bytes of quoted strings.
pub use Rattle.tinyjson_output.proofs.Bytes.{closed, enc, enc_cons, null_bytes, three, two_bytes}
pub use Rattle.tinyjson_output.proofs.Quotes.{all_plain, escape_ascii, high, quoted_bytes, two_ascii}
pub use Rattle.std.proofs.KnownBytes.{Appends-trans, Appends-kept as Appends_keeps, Appends-nil as Appends_nothing}
pub use Rattle.tinyjson_output.proofs.Written.{begins, ends, fails, goes}
pub use Rattle.tinyjson_output.proofs.Written.{stop, stops, stops_then, written_all, written_none, written_same}
pub use Rattle.tinyjson_output.proofs.Written.{written_take, written_then}
pub use Rattle.tinyjson_output.proofs.Sending.{begins as sent_begins, ends as sent_ends, fails as sent_fails}
pub use Rattle.tinyjson_output.proofs.Sending.{flushes as sent_flushes, goes as sent_goes, stop as sent_stop}
pub use Rattle.tinyjson_output.proofs.Sending.{stops as sent_stops, stops_then as sent_stops_then, now_buffered as sent_buffered}
pub use Rattle.tinyjson_output.proofs.Sending.{sends_same, buffered_part as sent_buffered_part, written_more as sent_written_more}
pub use Rattle.tinyjson_output.proofs.Sending.{written_none as sent_written_none, written_then as sent_written_then}
