use Rattle.std.proofs.Common.{◌≡◌, [], ◌∷◌, ◌∙◌, ap, arith, refl, reverse, subst, sym}
use Rattle.std.proofs.lemmas.List.{nil_from_length, reverse-append}
use Rattle.std.proofs.lemmas.Result.{IfOk-from_err}
use Rattle.tinyjson_patch.specs.private.Edited.{tree}
use Rattle.tinyjson_patch.specs.private.Writing.{Encloses, Waits, left_weight}
use Rattle.tinyjson_patch.proofs.Editing.Left.{weight_last}
use Rattle.tinyjson_patch.proofs.edit.write.pass.Goals as goal

pub loop-rest-init : goal.loop-rest-init
loop-rest-init g c = λ start os h.
    let t = tree c.args.value.now in
    c.in_ok-begin.ensures.waits start os os t h
    (subst (λ xs. Encloses (reverse xs) os os t t) (sym c.new-stack.ensures.items) (refl, refl))

pub resume-requires : goal.resume-requires
resume-requires g c =
    let r = c.requires in
    let l = c.loop-rest in
    let E = g.E.Events in
    let t = tree c.args.value.now in
    let last = ap reverse c.in-Some.ensures.items ∙ reverse-append c.pop.new.self.items (c.in-Some.rest ∷ []) in
    (r.0, r.1, t, subst (λ xs. Waits (E.holds r.0) (E.is r.0) r.1 t xs l.events) last (l.invariant r.0 r.1 r.2))

pub loop-rest-smaller : goal.loop-rest-smaller
loop-rest-smaller g c =
    let popped = ap left_weight c.in-Some.ensures.items ∙ weight_last c.pop.new.self.items c.in-Some.rest in
    omega (arith, popped, c.in_ok-resume.ensures.less)

pub loop-rest-preserved : goal.loop-rest-preserved
loop-rest-preserved g c = λ start os h.
    let l = c.loop-rest in
    let E = g.E.Events in
    let t = tree c.args.value.now in
    let last = ap reverse c.in-Some.ensures.items ∙ reverse-append c.pop.new.self.items (c.in-Some.rest ∷ []) in
    c.in_ok-resume.ensures.waits start os t
    (subst (λ xs. Waits (E.holds start) (E.is start) os t xs l.events) last (l.invariant start os h))

pub returns : goal.returns
returns g c = λ start os h.
    let l = c.loop-rest in
    let E = g.E.Events in
    let none : l.stack.items ≡ [] = nil_from_length l.stack.items (omega (arith, l.stack.ok.0, c.in_default.ensures.cases)) in
    subst (λ xs. Waits (E.holds start) (E.is start) os (tree c.args.value.now) (reverse xs) l.events) none (l.invariant start os h)

pub begin-requires : goal.begin-requires
begin-requires g c = c.requires

pub returns-in_err-begin : goal.returns-in_err-begin
returns-in_err-begin g c = λ start os h. IfOk-from_err c.from_residual.result _ c.from_residual.ensures.0

pub returns-in_err-resume : goal.returns-in_err-resume
returns-in_err-resume g c = λ start os h. IfOk-from_err c.from_residual-in_err-resume.result _ c.from_residual-in_err-resume.ensures.0
