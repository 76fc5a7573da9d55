use Rattle.std.proofs.Common.{◌≡◌, ◌∙◌, true≢false, sym, ap, arith}
use Rattle.std.proofs.lemmas.Bool.Decides.{nat_tests}
use Rattle.tinyjson.specs.Index.{nth}
use Rattle.tinyjson_schema_keywords.specs.Applied.{schemas_at}
use Rattle.tinyjson_schema_table.specs.Links.{led_by}
use Rattle.tinyjson_schema_table.proofs.link.is_listed.Goals as goal

pub returns-in_default : goal.returns-in_default
returns-in_default c h s = absurd (true≢false (sym h))

pub returns-then-at-index : goal.returns-then-at-index
returns-then-at-index c h s = absurd (true≢false (sym h))

pub returns : goal.returns
returns c h s =
    let same : c.args.index ≡ c.in-Listed.at = grind (arith, nat_tests) in
    ap (nth (schemas_at s c.args.keyword)) same
    ∙ (ap (λ k. nth (schemas_at s k) c.in-Listed.at) (c.is_keyword.ensures h) ∙ ap (led_by s) (sym c.in-Listed.is))
