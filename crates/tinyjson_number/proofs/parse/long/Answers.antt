use Rattle.std.proofs.Common.{arith, length-append}
use Rattle.std.proofs.lemmas.List.{nil_from_length}
use Rattle.std.proofs.lemmas.Int.{to_z-of_z}
use Rattle.tinyjson_number.proofs.DecimalTrip.{digits_join}
use Rattle.tinyjson_number.proofs.Readings.{kept_is, zero_value, zero_in_range, value_kept, value_in, value_out}
use Rattle.tinyjson_number.proofs.parse.long.Goals as goal

pub returns-then-kept-eq0-clause-reads : goal.returns-then-kept-eq0-clause-reads
returns-then-kept-eq0-clause-reads c = grind (arith, nil_from_length, zero_value, zero_in_range)

pub returns-in_default-clause-reads : goal.returns-in_default-clause-reads
returns-in_default-clause-reads c = grind (arith, length-append, value_out, to_z-of_z)

pub of_digits-requires-clause-canonical : goal.of_digits-requires-clause-canonical
of_digits-requires-clause-canonical c = grind (arith, to_z-of_z, kept_is, length-append, digits_join)

pub returns-in_err-of_digits-clause-reads : goal.returns-in_err-of_digits-clause-reads
returns-in_err-of_digits-clause-reads c = grind (arith, length-append, to_z-of_z, value_in)

pub returns-clause-reads : goal.returns-clause-reads
returns-clause-reads c = grind (arith, length-append, to_z-of_z, value_kept)
