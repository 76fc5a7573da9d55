use Rattle.std.proofs.Common.{◌≡◌, [], ◌∷◌, Ok, ap, arith, length, map, refl, subst}
use Rattle.std.proofs.lemmas.List.{nil_from_length}
use Rattle.std.specs.Str.{chars}
use Rattle.tinyjson.specs.View.{text}
use Rattle.tinyjson_patch.specs.private.Edited.{tree}
use Rattle.tinyjson_patch.specs.private.Opening.{StepsDown}
use Rattle.tinyjson_patch.proofs.Editing.Opening.{IsOnWay, next_on_way}
use Rattle.tinyjson_patch.proofs.edit.opened.go_down.Goals as goal

pub loop-token-init : goal.loop-token-init
loop-token-init c = (refl, λ u. refl)

pub loop-token-smaller : goal.loop-token-smaller
loop-token-smaller c =
    let n : length c.loop-token.rest.now ≡ length (c.in-Some.token.now ∷ c.in-Some.others.now) = ap length c.in-Some.ensures.cases.0 in
    omega (arith, n)

pub loop-token-preserved : goal.loop-token-preserved
loop-token-preserved c =
    let l = c.loop-token in
    let t = tree c.args.part.now in
    let ks = map text c.args.tokens.now in
    let os = c.args.opened.now.items in
    let way = subst (λ xs. IsOnWay t ks os l.opened.items (tree l.part) (map text xs)) c.in-Some.ensures.cases.0 l.invariant in
    next_on_way t ks os l.opened.items c.step_down.new.opened.items (tree l.part) (tree c.step_down.new.part) (text c.in-Some.token.now)
    (map text c.in-Some.others.now) way
    (subst (λ b. StepsDown (tree l.part) (chars b) (Ok tt) l.opened.items c.step_down.new.opened.items (tree c.step_down.new.part))
    c.as_str.ensures.value c.in_ok-step_down.ensures)

pub returns : goal.returns
returns c =
    let l = c.loop-token in
    let none : l.rest.now ≡ [] = nil_from_length l.rest.now c.in_default.ensures.cases in
    subst (λ xs. IsOnWay (tree c.args.part.now) (map text c.args.tokens.now) c.args.opened.now.items l.opened.items (tree l.part) (map text xs))
    none l.invariant
