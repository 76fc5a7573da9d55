use Rattle.std.proofs.Common.{◌↔◌, map, IsTrue, IfSome, subst}
use Rattle.std.specs.Str.{chars}
use Rattle.text_regexp.specs.Building.{choice}
use Rattle.text_regexp.specs.Forms.{Matches}
use Rattle.text_iregexp.specs.PatternTexts.{case_text}
use Rattle.text_iregexp.proofs.pattern.SchemaPattern.is_found_within.Goals as goal

pub returns-clause-found : goal.returns-clause-found
returns-clause-found c =
    subst (λ v. IfSome c.any_found.result (λ b. IsTrue b ↔ Matches (choice (map case_text v)) (chars c.args.text.now))) c.as_mut_slice.ensures.value
    c.any_found.ensures.found
