use Rattle.std.proofs.Common.{List, ℕ, Bor, option_map, map, subst, sym, ap, ◌∙◌}
use Rattle.std.specs.Str.{chars}
use Rattle.tinyjson.specs.View.{text}
use Rattle.tinyjson_pointer.specs.Spots.{from_key}
use Rattle.tinyjson_pointer.specs.private.Keys.{FindsKey, child_member, named_member}
use Rattle.tinyjson_pointer.proofs.Locating.Keyed.{exhausted_key, split_member, no_container, in_container}
use Rattle.tinyjson_pointer.proofs.place.key.key.Goals as goal

pub returns-in_err-found : goal.returns-in_err-found
returns-in_err-found c = λ s r h z e.
    exhausted_key r (named_member s (map text c.args.tokens.now)) c.from_residual.result c.in_err-found.field-0.0
    c.from_residual.ensures.1 (c.in_err-found.ensures s r h z e)

pub returns-in_default-found : goal.returns-in_default-found
returns-in_default-found c = λ s r h z e.
    no_container s r (text c.in-Some.last.now) (map text c.in-Some.front.now)
    (ap (option_map (λ (x : Bor (List ℕ)). chars x.now)) (sym c.in_default-found.is) ∙ c.in_ok-found.ensures s r h z e)
    ∙ ap (option_map (from_key r)) (split_member c.args.tokens.now c.in-Some.front.now c.in-Some.last.now s c.in-Some.ensures.cases.0)

pub returns : goal.returns
returns c = λ s r h z e.
    let front = map text c.in-Some.front.now in
    let last = text c.in-Some.last.now in
    subst (λ m. FindsKey r m c.child_key.result)
    (split_member c.args.tokens.now c.in-Some.front.now c.in-Some.last.now s c.in-Some.ensures.cases.0)
    (in_container s r last (chars c.in-Some-found.container.now) front c.child_key.result h z
    (ap (option_map (λ (x : Bor (List ℕ)). chars x.now)) (sym c.in-Some-found.is) ∙ c.in_ok-found.ensures s r h z e)
    (λ t q g y f. subst (λ k. FindsKey q (child_member t k) c.child_key.result) (ap chars c.as_str.ensures.value)
    (c.child_key.ensures t q g y f)))
