use Rattle.std.proofs.Common.{arith}
use Rattle.tinyjson_bytes.specs.Scan.{is_plain}
use Rattle.tinyjson_bytes.proofs.Scans.{run_within}
use Rattle.tinyjson_bytes.proofs.plain.plain_end.Goals as goal

pub returns-clause-within : goal.returns-clause-within
returns-clause-within c = omega (arith, run_within is_plain c.args.bytes.now c.args.from c.requires, c.run_end.ensures)
