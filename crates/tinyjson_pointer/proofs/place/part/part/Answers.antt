use Rattle.std.proofs.Common.{◌≡◌, ℕ, List, Bor, Ok, Err, map, option_map, refl, subst, ap}
use Rattle.std.proofs.lemmas.List.{nil_from_length}
use Rattle.std.specs.Str.{chars}
use Rattle.tinyjson.specs.View.{text}
use Rattle.tinyjson_pointer.specs.Places.{named}
use Rattle.tinyjson_pointer.specs.private.Parts.{Steps}
use Rattle.tinyjson_pointer.proofs.Locating.Walking.{Onward, reached_first, onward_next, onward_error, onward_last, exhausted_back}
use Rattle.tinyjson_pointer.proofs.place.part.part.Goals as goal

pub loop-token-init : goal.loop-token-init
loop-token-init c = λ s r h z e.
    reached_first s r (chars c.args.value.now) (map text c.args.tokens.now) (map text c.args.tokens.now) h z e refl

pub returns-in_err-next : goal.returns-in_err-next
returns-in_err-next c = λ s r h z e.
    let all = map text c.args.tokens.now in
    let here = option_map (λ (x : Bor (List ℕ)). chars x.now) c.loop-token.here in
    let key : chars c.as_str.result.now ≡ text c.in-Some.token.now = ap chars c.as_str.ensures.value in
    let onward = subst (λ ks. Onward s r all ks here) (ap (map text) c.in-Some.ensures.cases.0) (c.loop-token.invariant s r h z e) in
    exhausted_back r (named s all) c.from_residual.result c.in_err-next.field-0.0 c.from_residual.ensures.1
    (onward_error s r (text c.in-Some.token.now) all (map text c.in-Some.rest.now) here c.in_err-next.field-0.0 onward
    (subst (λ k. Steps k here (Err c.in_err-next.field-0.0)) key c.in_err-next.ensures))

pub loop-token-preserved : goal.loop-token-preserved
loop-token-preserved c = λ s r h z e.
    let all = map text c.args.tokens.now in
    let here = option_map (λ (x : Bor (List ℕ)). chars x.now) c.loop-token.here in
    let key : chars c.as_str.result.now ≡ text c.in-Some.token.now = ap chars c.as_str.ensures.value in
    let onward = subst (λ ks. Onward s r all ks here) (ap (map text) c.in-Some.ensures.cases.0) (c.loop-token.invariant s r h z e) in
    onward_next s r (text c.in-Some.token.now) all (map text c.in-Some.rest.now) here c.in_ok-next.next onward
    (subst (λ k. Steps k here (Ok c.in_ok-next.next)) key c.in_ok-next.ensures)

pub returns : goal.returns
returns c = λ s r h z e.
    onward_last s r (map text c.args.tokens.now) (map text c.loop-token.left.now)
    (option_map (λ (x : Bor (List ℕ)). chars x.now) c.loop-token.here) (c.loop-token.invariant s r h z e)
    (ap (map text) (nil_from_length c.loop-token.left.now c.in_default.ensures.cases))
