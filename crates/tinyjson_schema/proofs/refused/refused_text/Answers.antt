use Rattle.std.proofs.Common.{◌≡◌, ◌∙◌, sym, ap, subst}
use Rattle.std.specs.Str.{chars}
use Rattle.tinyjson.proofs.Callers.{view_String}
use Rattle.tinyjson.specs.Tree.{string}
use Rattle.tinyjson.specs.View.{view}
use Rattle.tinyjson_schema.specs.Refused.{IsTextReason}
use Rattle.tinyjson_schema.proofs.Refusals.{at_text, no_text}
use Rattle.tinyjson_schema.proofs.refused.refused_text.Goals as goal

pub returns-in-Some : goal.returns-in-Some
returns-in-Some c = λ root whole.
    let same : string (chars c.as_str.result.now) ≡ view c.args.value.now
    = ap (λ bs. string (chars bs)) c.as_str.ensures.value ∙ sym (ap view c.in-String.is ∙ view_String c.in-String.pattern) in
    at_text root whole c.args.value.now _ _ c.whole_place.result same
    (subst (IsTextReason (chars c.as_str.result.now)) c.in-Some.is c.in_ok-reason-in-String.ensures) c.whole_place.ensures

pub returns-in_default : goal.returns-in_default
returns-in_default c = λ root whole.
    no_text root whole c.args.value.now c.whole_place-in_default.result c.in_default.not-String c.whole_place-in_default.ensures
