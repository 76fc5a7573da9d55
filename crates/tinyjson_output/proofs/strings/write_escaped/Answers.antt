use Rattle.std.proofs.Common.{◌≡◌, [], drop, arith}
use Rattle.std.proofs.lemmas.List.{drop_all}
use Rattle.tinyjson_grammar.specs.Text.{escapes}
use Rattle.tinyjson_output.proofs.Sending.{goes, ends, fails, written_none}
use Rattle.tinyjson_output.proofs.Quotes.{at_stop, stops_there, escapes_there}
use Rattle.tinyjson_output.proofs.strings.write_escaped.Goals as goal

pub returns-in_err-write_bytes : goal.returns-in_err-write_bytes
returns-in_err-write_bytes g c =
    let xs = c.args.bytes.now in
    let n = c.plain_end-stop.result in
    fails _ (escapes (drop n xs)) c.from_residual.ensures.0 c.in_err-write_bytes.ensures
    (written_none _ _ _ (at_stop xs n c.plain_end-stop.ensures.end))

pub returns-then-stop-bytes : goal.returns-then-stop-bytes
returns-then-stop-bytes g c =
    let xs = c.args.bytes.now in
    let n = c.plain_end-stop.result in
    let none : drop n xs ≡ [] = drop_all n xs (omega arith) in
    rw none at (goes (escapes (drop n xs)) c.in_ok-write_bytes.ensures (written_none _ _ _ (at_stop xs n c.plain_end-stop.ensures.end)))

pub write_stopped-requires : goal.write_stopped-requires
write_stopped-requires g c = stops_there c.args.bytes.now c.plain_end-stop.result c.plain_end-stop.ensures.end

pub returns : goal.returns
returns g c =
    let xs = c.args.bytes.now in
    let n = c.plain_end-stop.result in
    let e = c.plain_end-stop.ensures.end in
    ends _ _ _ _ _ _ c.write_stopped.ensures (rw (escapes_there xs n e) at
    (goes (escapes (drop n xs)) c.in_ok-write_bytes.ensures (written_none _ _ _ (at_stop xs n e))))
