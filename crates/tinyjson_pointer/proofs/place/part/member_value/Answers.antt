use Rattle.std.proofs.Common.{◌∷◌, None, Some, option_map, sym, ap, ◌∙◌}
use Rattle.std.specs.Str.{chars}
use Rattle.tinyjson_pointer.specs.Spots.{last_member}
use Rattle.tinyjson_pointer.specs.private.Keys.{member_chars}
use Rattle.tinyjson_pointer.proofs.Locating.Keyed.{value_found}
use Rattle.tinyjson_pointer.proofs.Locating.Walking.{exhausted_back}
use Rattle.tinyjson_pointer.proofs.place.part.member_value.Goals as goal

pub returns-in_err-found : goal.returns-in_err-found
returns-in_err-found c = λ ps r h z e.
    exhausted_back (125 ∷ r) (last_member (chars c.args.key.now) ps) c.from_residual.result c.in_err-found.field-0.0
    c.from_residual.ensures.1 (c.in_err-found.ensures ps r h z e)

pub returns-in_default : goal.returns-in_default
returns-in_default c = λ ps r h z e.
    value_found (125 ∷ r) (chars c.args.key.now) ps None
    (ap (option_map member_chars) (sym c.in_default.is) ∙ c.in_ok-found.ensures ps r h z e)

pub returns : goal.returns
returns c = λ ps r h z e.
    value_found (125 ∷ r) (chars c.args.key.now) ps (Some c.in-Some.member)
    (ap (option_map member_chars) (sym c.in-Some.is) ∙ c.in_ok-found.ensures ps r h z e)
