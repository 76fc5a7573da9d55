use Rattle.tinyjson_number.proofs.Scans.{no_power, none_from_test}
use Rattle.tinyjson_number.proofs.scan.exponent_at.Goals as goal

pub returns-then-is_empty : goal.returns-then-is_empty
returns-then-is_empty c = search (none_from_test, no_power)
