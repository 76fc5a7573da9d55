use Rattle.std.proofs.Common.{sym, subst, arith, rules}
use Rattle.std.proofs.lemmas.Int.{ints}
use Rattle.tinyjson_number.specs.Numeral.{AreDigits}
use Rattle.tinyjson_number.proofs.Layouts.{digits_are}
use Rattle.tinyjson_number.proofs.Integers.{none_under, answer_is}
use Rattle.tinyjson_number.proofs.number.JsonNumber.magnitude.Goals as goal

pub digits_number-requires : goal.digits_number-requires
digits_number-requires c = subst AreDigits (sym c.digit_bytes.ensures) (digits_are c.args.self.now)

pub returns-in_default : goal.returns-in_default
returns-in_default c = search (rules, none_under)

pub returns : goal.returns
returns c = grind (arith, ints, answer_is)
