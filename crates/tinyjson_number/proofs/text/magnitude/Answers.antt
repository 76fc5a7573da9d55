use Rattle.std.proofs.Common.{arith}
use Rattle.std.proofs.lemmas.Int.{ints}
use Rattle.tinyjson_number.proofs.text.magnitude.Goals as goal

pub overflow_add-point : goal.overflow_add-point
overflow_add-point c = omega (arith, ints)

pub overflow_cast-point : goal.overflow_cast-point
overflow_cast-point c = omega (arith, ints)

pub overflow_cast-point-2 : goal.overflow_cast-point-2
overflow_cast-point-2 c = omega (arith, ints)

pub overflow_cast-power : goal.overflow_cast-power
overflow_cast-power c = omega (arith, ints)
