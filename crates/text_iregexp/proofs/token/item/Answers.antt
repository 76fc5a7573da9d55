use Rattle.std.proofs.Common.{sym, ◌∙◌}
use Rattle.text_iregexp.proofs.TokenFronts.{fronts_as, item_category, item_characters, item_nothing}
use Rattle.text_iregexp.proofs.token.item.Goals as goal

pub returns-then-not-begins_category : goal.returns-then-not-begins_category
returns-then-not-begins_category c =
    fronts_as (λ i. i) _ _ c.characters.result (λ l. l)
    (item_characters c.args.text.now (sym c.begins_category.ensures ∙ c.if-not-begins_category.true)) c.characters.ensures

pub returns-in_default : goal.returns-in_default
returns-in_default c = item_nothing c.args.text.now c.in_default.ensures.cases

pub returns : goal.returns
returns c =
    fronts_as (λ i. i) _ _ c.category.result (λ l. l)
    (item_category c.args.text.now _ _ c.in-Some.ensures.cases.0 (sym c.begins_category.ensures ∙ c.if-not-begins_category.false))
    c.category.ensures
