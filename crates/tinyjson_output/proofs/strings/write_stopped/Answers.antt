use Rattle.std.proofs.Common.{drop}
use Rattle.tinyjson_grammar.specs.Text.{escapes}
use Rattle.tinyjson_output.proofs.Sending.{goes, fails, written_then}
use Rattle.tinyjson_output.proofs.Quotes.{at_stop, stops_there, escapes_there}
use Rattle.tinyjson_output.proofs.strings.write_stopped.Goals as goal

pub returns-in_err-write_escape : goal.returns-in_err-write_escape
returns-in_err-write_escape g c =
    let after = c.in-Some.after.now in
    fails _ (escapes after) c.from_residual.ensures.0 c.in_err-write_escape.ensures
    (rw c.in-Some.ensures.cases.0 at c.loop-byte.invariant.1)

pub returns-in_err-write_bytes : goal.returns-in_err-write_bytes
returns-in_err-write_bytes g c =
    let after = c.in-Some.after.now in
    let others = c.append_escapes-others.result.now in
    let n = c.plain_end-stop.result in
    let h = goes (escapes after) c.in_ok-write_escape.ensures (rw c.in-Some.ensures.cases.0 at c.loop-byte.invariant.1) in
    let k = written_then (escapes after) (escapes others) h (c.append_escapes-others.ensures.buffers _) in
    fails _ (escapes (drop n others)) c.from_residual-in_err-write_bytes.ensures.0 c.in_err-write_bytes.ensures
    (rw (at_stop others n c.plain_end-stop.ensures.end) at k)

pub loop-byte-preserved : goal.loop-byte-preserved
loop-byte-preserved g c =
    let after = c.in-Some.after.now in
    let others = c.append_escapes-others.result.now in
    let n = c.plain_end-stop.result in
    let e = c.plain_end-stop.ensures.end in
    let h = goes (escapes after) c.in_ok-write_escape.ensures (rw c.in-Some.ensures.cases.0 at c.loop-byte.invariant.1) in
    let k = written_then (escapes after) (escapes others) h (c.append_escapes-others.ensures.buffers _) in
    let m = goes (escapes (drop n others)) c.in_ok-write_bytes.ensures (rw (at_stop others n e) at k) in
    (stops_there others n e, rw (escapes_there others n e) at m)
