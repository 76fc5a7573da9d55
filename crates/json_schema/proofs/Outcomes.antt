-- The outcome of texts, one after the other.
use Rattle.std.proofs.Common.{◌≡◌, List, [], ◌∷◌, ◌++◌, refl, sym, ap, ◌∙◌}
use Rattle.json_schema.specs.Run.{Checked, both, outcome_of, outcome_of_all}
use Rattle.json_schema.specs.declared.lines.Outcome.{Outcome}
use Rattle.json_schema.specs.declared.lines.Outcome.TheVariants.{AllValid, SomeInvalid, SomeRefused}

both_valid : (o : Outcome) → both o AllValid ≡ o
both_valid AllValid = refl
both_valid SomeInvalid = refl
both_valid SomeRefused = refl

both_assoc : (a b c : Outcome) → both (both a b) c ≡ both a (both b c)
both_assoc AllValid b c = refl
both_assoc SomeInvalid AllValid c = refl
both_assoc SomeInvalid SomeInvalid AllValid = refl
both_assoc SomeInvalid SomeInvalid SomeInvalid = refl
both_assoc SomeInvalid SomeInvalid SomeRefused = refl
both_assoc SomeInvalid SomeRefused c = refl
both_assoc SomeRefused b c = refl

pub outcome_next : (fs : List Checked) (f : Checked) → both (outcome_of_all fs) (outcome_of f.verdict) ≡ outcome_of_all (fs ++ f ∷ [])
outcome_next [] f = sym (both_valid (outcome_of f.verdict))
outcome_next (g ∷ fs) f =
    both_assoc (outcome_of g.verdict) (outcome_of_all fs) (outcome_of f.verdict) ∙ ap (both (outcome_of g.verdict)) (outcome_next fs f)
