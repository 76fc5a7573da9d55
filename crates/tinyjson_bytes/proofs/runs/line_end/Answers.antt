use Rattle.std.proofs.Common.{arith}
use Rattle.tinyjson_bytes.specs.Scan.{is_in_line}
use Rattle.tinyjson_bytes.proofs.Scans.{run_within}
use Rattle.tinyjson_bytes.proofs.runs.line_end.Goals as goal

pub returns-clause-within : goal.returns-clause-within
returns-clause-within c = omega (arith, run_within is_in_line c.args.bytes.now 0 (omega arith), c.run_end.ensures)
