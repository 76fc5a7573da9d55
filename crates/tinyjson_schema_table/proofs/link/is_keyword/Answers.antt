use Rattle.std.proofs.Common.{◌≡◌, ◌∙◌, Some, slice_get, true≢false, sym, ap, arith}
use Rattle.std.proofs.lemmas.Bool.Decides.{nat_tests}
use Rattle.tinyjson_schema_table.specs.Held.{held}
use Rattle.tinyjson_schema_table.proofs.Held.{one_there}
use Rattle.tinyjson_schema_table.proofs.link.is_keyword.Goals as goal

pub returns-in_default : goal.returns-in_default
returns-in_default c h = absurd (true≢false (sym h))

pub returns-in_default-place_of : goal.returns-in_default-place_of
returns-in_default-place_of c h = absurd (true≢false (sym h))

pub returns : goal.returns
returns c h =
    let same : c.in-Some-place_of.at ≡ c.in-Some.place = grind (arith, nat_tests) in
    one_there _ _ (sym c.in-Some.ensures ∙ (ap (slice_get held) (sym same) ∙ c.in-Some-place_of.ensures))
