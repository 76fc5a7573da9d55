use Rattle.std.proofs.Common.{◌∙◌, refl, subst}
use Rattle.std.specs.Str.{chars}
use Rattle.text_iregexp.specs.Grammar.{IsText}
use Rattle.text_iregexp.specs.Reading.{Refused}
use Rattle.text_iregexp.proofs.Reading.{one_reading}
use Rattle.text_iregexp.proofs.Refusing.{refused_at_once}
use Rattle.text_iregexp.proofs.regexp.IRegexp.parse.Goals as goal

pub returns-in-Ok-read : goal.returns-in-Ok-read
returns-in-Ok-read c =
    let r = c.in-Ok-read.ensures.0 in
    let means = c.in-Ok-read.ensures.2 in
    let all = c.as_slice.ensures.value ∙ c.in-Ok.ensures in
    let text = subst (λ cs. IsText cs r) all c.in-Ok-read.ensures.1 in
    record {
      regexp = r;
      text = text;
      only = λ q t. one_reading (chars c.args.text.now) q r t text;
      small = c.in-Ok-read.ensures.3;
      same = record { to = means.sound; from = means.complete };
    }

pub returns-in_default : goal.returns-in_default
returns-in_default c = refused_at_once _ _ refl refl

pub returns : goal.returns
returns c = subst (λ cs. Refused cs c.in-Err.error) (c.as_slice.ensures.value ∙ c.in-Ok.ensures) c.in-Err.ensures
