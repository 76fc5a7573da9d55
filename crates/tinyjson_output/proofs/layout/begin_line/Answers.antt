use Rattle.std.proofs.Common.{◌≡◌, ◌+◌, ◌-◌, arith}
use Rattle.std.specs.Str.{chars}
use Rattle.tinyjson_grammar.specs.Text.{repeated}
use Rattle.tinyjson_output.proofs.Bytes.{enc, enc_cons, line_here}
use Rattle.tinyjson_output.proofs.Sending.{goes, fails, written_none}
use Rattle.tinyjson_output.proofs.layout.begin_line.Goals as goal

pub returns-in_err-write_bytes : goal.returns-in_err-write_bytes
returns-in_err-write_bytes g c =
    let r = repeated c.args.level (chars c.args.indent.now) in
    fails _ (enc r) c.from_residual.ensures.0 c.in_err-write_bytes.ensures (written_none _ _ _ (enc_cons 10 r (omega arith)))

pub returns-in_err-write_bytes-2 : goal.returns-in_err-write_bytes-2
returns-in_err-write_bytes-2 g c =
    let bs = c.args.indent.now in
    let h = rw (line_here c.args.level c.loop-level._level bs c.utf8.indent c.loop-level-test.true) at c.loop-level.invariant in
    fails _ (enc (repeated (c.args.level - (c.loop-level._level + 1)) (chars bs))) c.from_residual-in_err-write_bytes-2.ensures.0
    c.in_err-write_bytes-2.ensures (rw c.as_bytes.ensures.value h)

pub loop-level-preserved : goal.loop-level-preserved
loop-level-preserved g c =
    let bs = c.args.indent.now in
    let h = rw (line_here c.args.level c.loop-level._level bs c.utf8.indent c.loop-level-test.true) at c.loop-level.invariant in
    goes (enc (repeated (c.args.level - (c.loop-level._level + 1)) (chars bs))) c.in_ok-write_bytes-2.ensures
    (rw c.as_bytes.ensures.value h)

pub loop-level-init : goal.loop-level-init
loop-level-init g c =
    let r = repeated c.args.level (chars c.args.indent.now) in
    let none : c.args.level - 0 ≡ c.args.level = omega arith in
    rw none (goes (enc r) c.in_ok-write_bytes.ensures (written_none _ _ _ (enc_cons 10 r (omega arith))))

pub returns : goal.returns
returns g c =
    let all : c.args.level - c.loop-level._level ≡ 0 = omega (arith, c.loop-level-test.false) in
    rw all at c.loop-level.invariant
