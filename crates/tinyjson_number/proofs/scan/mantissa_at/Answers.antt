use Rattle.tinyjson_number.proofs.Scans.{fraction_lacks}
use Rattle.tinyjson_number.proofs.scan.mantissa_at.Goals as goal

pub returns-in_err-fraction : goal.returns-in_err-fraction
returns-in_err-fraction c = search (c.from_residual.ensures, fraction_lacks, c.in_err-fraction.ensures)
