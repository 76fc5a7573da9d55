use Rattle.tinyjson_lines.proofs.Pieces.{stops_read, stops_part}
use Rattle.tinyjson_lines.proofs.within.gather_line.Goals as goal

pub returns-in_err-read-clause-reads : goal.returns-in_err-read-clause-reads
returns-in_err-read-clause-reads g c =
    stops_read c.args.max _ _ _ c.in_err-read.field-0.0 c.from_residual.result c.from_residual.ensures.1
    (c.in_err-read.ensures.reads _ c.loop.invariant.part)

pub returns-clause-reads : goal.returns-clause-reads
returns-clause-reads g c = stops_part c.args.max _ _ _ _ c.too_long.ensures c.loop.invariant.part
