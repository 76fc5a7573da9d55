use Rattle.std.proofs.Common.{sym, ap, ◌∙◌, arith}
use lib.Count.{count_trailing_zeros}
use Rattle.tinyjson_bytes.specs.Scan.{fails, is_plain}
use Rattle.tinyjson_bytes.proofs.Scans.{opposite, run_through, run_stops}
use Rattle.tinyjson_bytes.proofs.plain.few_end.Goals as goal

pub returns-then-found-ne0 : goal.returns-then-found-ne0
returns-then-found-ne0 c =
    let found = c.failing_4-found in
    let run = run_stops (fails is_plain) is_plain (opposite is_plain) c.args.bytes.now c.args.from 4 (omega arith) (omega arith)
    (omega (arith, found.ensures)) ∙ ap (count_trailing_zeros 64) (sym found.ensures) in
    omega (arith, run)

pub returns : goal.returns
returns c =
    let run = run_through (fails is_plain) is_plain (opposite is_plain) c.args.bytes.now c.args.from 4 (omega arith)
    (omega (arith, c.failing_4-found.ensures)) in
    omega (arith, run)
