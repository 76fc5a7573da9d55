use Rattle.std.proofs.Common.{rules, ◌≡◌, refl}
use Rattle.tinyjson_tokens.proofs.Units.{scalar_plain}
use Rattle.tinyjson_tokens.proofs.Reading.Escape.{unit_escape}
use Rattle.tinyjson_tokens.proofs.escape.units_at.Goals as goal

pub returns : goal.returns
returns c =
    let e : c.in_ok-c.c ≡ c.in_ok-unit.unit = search rules in
    rw e (unit_escape c.args.bytes.now c.args.at _ c.in_ok-unit.unit c.in_ok-unit.ensures refl
    (scalar_plain c.in_ok-unit.unit c.in_ok-c.ensures.cases))
