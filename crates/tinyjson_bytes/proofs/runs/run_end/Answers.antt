use Rattle.std.proofs.Common.{sym, ap, ◌∙◌, arith}
use lib.Count.{count_trailing_zeros}
use Rattle.tinyjson_bytes.specs.Scan.{fails}
use Rattle.tinyjson_bytes.proofs.Scans.{opposite, run_through, run_stops}
use Rattle.tinyjson_bytes.proofs.runs.run_end.Goals as goal

pub returns-then-found-ne0 : goal.returns-then-found-ne0
returns-then-found-ne0 g c =
    let found = c.failing-found in
    let run = run_stops (fails g.C.Class.test) g.C.Class.test (opposite g.C.Class.test) c.args.bytes.now c.loop-i.i 16
    (omega arith) (omega arith) (omega (arith, found.ensures)) ∙ ap (count_trailing_zeros 64) (sym found.ensures) in
    omega (arith, run, c.loop-i.invariant.run)

pub loop-i-preserved : goal.loop-i-preserved
loop-i-preserved g c =
    let run = run_through (fails g.C.Class.test) g.C.Class.test (opposite g.C.Class.test) c.args.bytes.now c.loop-i.i 16 (omega arith)
    (omega (arith, c.failing-found.ensures)) in
    record { run = omega (arith, run, c.loop-i.invariant.run); within = omega arith }
