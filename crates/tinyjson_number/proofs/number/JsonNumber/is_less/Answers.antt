use Rattle.std.proofs.Common.{not, ◌∙◌, ap}
use Rattle.tinyjson_number.proofs.Decimals.{less_unless}
use Rattle.tinyjson_number.specs.Order.{signed_units}
use Rattle.tinyjson_number.proofs.number.JsonNumber.is_less.Goals as goal

pub returns : goal.returns
returns c =
    let d = c.args.self.now.decimal in
    let e = c.args.other.now.decimal in
    ap not c.is_at_most.ensures ∙ less_unless (signed_units d e) (signed_units e d)
