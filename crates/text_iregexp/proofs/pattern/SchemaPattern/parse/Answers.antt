use Rattle.std.proofs.Common.{[], ◌∷◌, ◌++◌, ◌∙◌, refl, subst, sym}
use Rattle.std.specs.Str.{chars}
use Rattle.text_iregexp.specs.Patterns.{IsText}
use Rattle.text_iregexp.specs.PatternReading.{Refused, IsRefused}
use Rattle.text_iregexp.proofs.PatternForms.{found_to, found_from}
use Rattle.text_iregexp.proofs.PatternTexts.{texts_to, texts_from}
use Rattle.text_iregexp.proofs.PatternReading.{one_pattern, refused_at_once}
use Rattle.text_iregexp.proofs.pattern.SchemaPattern.parse.Goals as goal

pub returns-in-Ok-read_pattern : goal.returns-in-Ok-read_pattern
returns-in-Ok-read_pattern c =
    let p = c.in-Ok-read_pattern.ensures.0 in
    let means = c.in-Ok-read_pattern.ensures.3 in
    let text = subst (λ cs. IsText cs p) (c.as_slice.ensures.value ∙ c.in-Ok.ensures) c.in-Ok-read_pattern.ensures.1 in
    record {
      meant = p;
      text = text;
      only = λ q t. one_pattern (chars c.args.text.now) q p t text;
      small = c.in-Ok-read_pattern.ensures.2;
      same = λ ds. (
        λ m. found_to p ds (texts_to c.in-Ok-read_pattern.cases.items (p.before ++ p.last ∷ []) ds means m),
        λ f. texts_from c.in-Ok-read_pattern.cases.items (p.before ++ p.last ∷ []) ds means (found_from p ds f),
      );
    }

pub returns-in_default : goal.returns-in_default
returns-in_default c = refused_at_once _ _ refl refl

pub refusal-requires : goal.refusal-requires
refusal-requires c =
    subst (λ cs. Refused cs c.in-Err.error) (c.as_slice.ensures.value ∙ sym c.as_slice-in-Err.ensures.value) c.in-Err.ensures

pub returns : goal.returns
returns c = subst (λ cs. IsRefused cs c.refusal.result) (c.as_slice-in-Err.ensures.value ∙ c.in-Ok.ensures) c.refusal.ensures
