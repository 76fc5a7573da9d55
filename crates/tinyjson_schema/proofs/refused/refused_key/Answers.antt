use Rattle.std.proofs.Common.{◌≡◌, ◌∷◌, ◌∙◌, ◌&&◌, ◌+◌, false, Some, drop, sym, ap, subst}
use Rattle.std.specs.Str.{chars}
use Rattle.text_iregexp.specs.PatternDeciding.{is_pattern}
use Rattle.tinyjson.specs.Tree.{object}
use Rattle.tinyjson.specs.View.{text, members_listed}
use Rattle.tinyjson_pointer.specs.Tokens.{tokens_of}
use Rattle.tinyjson_schema_keywords.specs.declared.keyword.Form.TheVariants as form
use Rattle.tinyjson_schema_keywords.proofs.Callers.{turn_stop}
use Rattle.tinyjson_schema_assertions.specs.Operands.{are_patterns}
use Rattle.tinyjson_schema.specs.Refused.{IsReason, IsTextReason}
use Rattle.tinyjson_schema.proofs.Refusals.{at_key}
use Rattle.tinyjson_schema.proofs.refused.refused_key.Goals as goal

pub returns-in-Some : goal.returns-in-Some
returns-in-Some c = λ root whole.
    let ps = c.args.schemas.now in
    let i = c.loop-key.key-index in
    let p = c.loop-key-item.result in
    let all = are_patterns (members_listed ps) in
    let why : IsTextReason (text p.0.now) (Some c.in-Some.reason)
    = subst (λ cs. IsTextReason cs (Some c.in-Some.reason)) (ap chars c.as_str.ensures.value)
    (subst (IsTextReason (chars c.as_str.result.now)) c.in-Some.is c.in_ok-reason.ensures) in
    let others = are_patterns (members_listed (drop (i + 1) ps)) in
    let none : is_pattern (text p.0.now) ≡ false → all ≡ false
    = λ e. sym (turn_stop (λ xs. are_patterns (members_listed xs)) ps i false p c.loop-key-test.true c.loop-key-item.is
    (ap (λ b. b && others) e) c.loop-key.invariant) in
    subst (λ x. IsReason all root whole form.PatternMap (object (members_listed ps)) x (tokens_of c.prepend.new.self))
    (sym c.whole_place-place.ensures.0)
    (at_key root whole ps i p c.in-Some.reason _ c.requires c.loop-key-test.true c.loop-key-item.is why none
    (c.in_ok-prepend.ensures.ok ∙ (ap (λ k. k ∷ tokens_of c.whole_place-place.result.pointer)
    (ap chars (c.in_ok-from_str.ensures.ok ∙ c.as_str-in-Some.ensures.value))
    ∙ ap (λ ks. text p.0.now ∷ ks) c.whole_place-place.ensures.1)))
