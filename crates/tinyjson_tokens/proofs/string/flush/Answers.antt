use Rattle.std.proofs.Common.{◌≡◌, ◌∙◌, ◌++◌, true, false, inl, inr, refl, sym, ap}
use Rattle.tinyjson_grammar.specs.Characters.{paired, decode, text}
use Rattle.tinyjson_tokens.proofs.string.flush.Goals as goal

pub returns-in-Ok-true : goal.returns-in-Ok-true
returns-in-Ok-true c =
    let whole : paired c.args.units.now.items ≡ true =
    ap paired (sym c.deref.ensures.value) ∙ sym c.in-Ok-true.ensures.whole ∙ c.in-Ok-true.field-0-test in
    let added = c.in-Ok-true.ensures.text c.in-Ok-true.field-0-test ∙ ap
    (λ us. text c.args.string.now ++ decode us) c.deref.ensures.value in
    (whole, added, c.clear.ensures.items)

pub returns-in-Ok-false : goal.returns-in-Ok-false
returns-in-Ok-false c =
    let unpaired : paired c.args.units.now.items ≡ false =
    ap paired (sym c.deref.ensures.value) ∙ sym c.in-Ok-false.ensures.whole ∙ c.in-Ok-false.field-0-test in
    inl (unpaired, refl)

pub returns-in-Err : goal.returns-in-Err
returns-in-Err c = inr refl
