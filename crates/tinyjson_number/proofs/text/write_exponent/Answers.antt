use Rattle.std.proofs.Common.{◌≡◌, arith, rules}
use Rattle.std.specs.Fmt.{signed_decimal}
use Rattle.tinyjson_number.specs.Text.{integer_text}
use Rattle.tinyjson_number.proofs.Naturals.{integer_decimal}
use Rattle.tinyjson_number.proofs.text.write_exponent.Goals as goal

pub returns : goal.returns
returns g c = let same : integer_text c.args.exponent ≡ signed_decimal c.args.exponent =
    integer_decimal c.args.exponent (omega (arith, c.ranges.exponent.sfits)) in rw same (search rules)
