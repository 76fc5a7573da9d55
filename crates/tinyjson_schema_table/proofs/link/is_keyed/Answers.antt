use Rattle.std.proofs.Common.{◌≡◌, ◌∙◌, true≢false, sym, ap}
use Rattle.std.proofs.lemmas.Bool.{MatchBool-at_true, not-false}
use Rattle.std.specs.Str.{chars}
use Rattle.tinyjson_schema_table.specs.Links.{led_by, keyed}
use Rattle.tinyjson_schema_table.proofs.link.is_keyed.Goals as goal

pub returns-in_default : goal.returns-in_default
returns-in_default c h s = absurd (true≢false (sym h))

pub returns-then-not-is_keyword : goal.returns-then-not-is_keyword
returns-then-not-is_keyword c h s = absurd (true≢false (sym h))

pub returns : goal.returns
returns c h s =
    let same = MatchBool-at_true (c.as_bytes.result.now ≡ c.as_bytes-2.result.now) _ h c.are_equal.ensures in
    ap (λ bs. keyed s c.args.keyword (chars bs)) (sym c.as_bytes.ensures.value ∙ (same ∙ c.as_bytes-2.ensures.value))
    ∙ (ap (λ k. keyed s k (chars c.in-Keyed.name.now)) (c.is_keyword.ensures c.if-not-is_keyword.false)
    ∙ ap (led_by s) (sym c.in-Keyed.is))
