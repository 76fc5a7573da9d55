use Rattle.std.proofs.Common.{arith}
use Rattle.std.proofs.lemmas.List.{length-set}
use Rattle.tinyjson_number.proofs.Integers.{next_place, digit_placed, last_placed}
use Rattle.tinyjson_number.proofs.integer.write_digits.Goals as goal

pub loop-rest-preserved : goal.loop-rest-preserved
loop-rest-preserved c = grind (arith, next_place, length-set, digit_placed)

pub returns-clause-digits : goal.returns-clause-digits
returns-clause-digits c = grind (arith, last_placed)
