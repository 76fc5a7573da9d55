use Rattle.std.proofs.Common.{ap, length, arith}
use Rattle.tinyjson_grammar.specs.Text.{escapes}
use Rattle.tinyjson_output.proofs.Sending.{begins, goes, now_buffered}
use Rattle.tinyjson_output.proofs.strings.append_escapes.Goals as goal

pub loop-byte-init : goal.loop-byte-init
loop-byte-init c = (λ held. begins, omega arith)

pub loop-byte-preserved : goal.loop-byte-preserved
loop-byte-preserved c =
    let l = c.loop-byte in
    let e = c.in-Some.ensures.cases.0 in
    let sent = rw c.if-not-append_escape.false at c.append_escape.ensures in (
      λ held. goes (escapes c.in-Some.after.now) (now_buffered held _ _ _ sent) (rw e at (l.invariant.0 held)),
      omega (arith, l.invariant.1, ap length e),
    )
