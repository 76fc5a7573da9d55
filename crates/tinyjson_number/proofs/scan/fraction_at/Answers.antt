use Rattle.tinyjson_number.proofs.Scans.{empty_stops, fraction_between, no_fraction_at, none_from_test, some_from_test}
use Rattle.tinyjson_number.proofs.scan.fraction_at.Goals as goal

pub returns-then-is_empty : goal.returns-then-is_empty
returns-then-is_empty c = search (none_from_test, empty_stops, no_fraction_at, c.if-not-has_point.ensures)

pub returns : goal.returns
returns c = search (some_from_test, fraction_between, c.if-not-has_point.ensures)
