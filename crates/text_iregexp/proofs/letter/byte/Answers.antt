use Rattle.std.proofs.Common.{subst, ap, sym, ◌∙◌}
use Rattle.text_iregexp.specs.Fronts.{Fronts}
use Rattle.text_iregexp.specs.PatternFronts.{literal_front}
use Rattle.text_iregexp.proofs.PatternLetters.{byte_read}
use Rattle.text_iregexp.proofs.letter.byte.Goals as goal

pub returns-in-Some : goal.returns-in-Some
returns-in-Some c =
    subst (λ o. Fronts ⊥ (λ x. x) o c.literal.result)
    (ap (literal_front _) c.scalar.ensures
    ∙ byte_read c.args.text.now c.a-item.result c.b-item.result c.in-Some.code c.in-len2-up.len_at_least c.a-item.is c.b-item.is
    (sym c.in-Some.is ∙ c.byte_of.ensures.value) c.in-Some.ensures.few) c.literal.ensures
