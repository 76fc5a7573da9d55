use Rattle.std.proofs.Common.{◌≡◌, [], ◌∷◌, ◌∙◌, OnOk, ap, arith, refl, reverse, subst, sym}
use Rattle.std.proofs.lemmas.List.{nil_from_length, reverse-append}
use Rattle.tinyjson.specs.Events.{Puts}
use Rattle.tinyjson_document.specs.Document.{tree}
use Rattle.tinyjson_patch.specs.Merge.{merge_patch}
use Rattle.tinyjson_patch.specs.Merging.{Encloses, Waits, left_weight}
use Rattle.tinyjson_patch.proofs.MergingDocuments.{replaces, weight_last}
use Rattle.tinyjson_patch.proofs.merge_document.merge_into.Goals as goal

pub loop-left-init : goal.loop-left-init
loop-left-init g c = λ start os h.
    let u = merge_patch (tree c.args.target) (tree c.args.patch) in
    c.in_ok-open.ensures.waits start os os u h
    (subst (λ xs. Encloses (reverse xs) os os u u) (sym c.new-stack.ensures.items) (refl, refl))

pub resume-requires : goal.resume-requires
resume-requires g c =
    let r = c.requires in
    let l = c.loop-left in
    let E = g.E.Events in
    let u = merge_patch (tree c.args.target) (tree c.args.patch) in
    let last = ap reverse c.in-Some.ensures.items ∙ reverse-append c.pop.new.self.items (c.in-Some.left ∷ []) in
    (r.0, r.1, u, subst (λ xs. Waits (E.holds r.0) (E.is r.0) r.1 u xs l.events) last (l.invariant r.0 r.1 r.2))

pub loop-left-smaller : goal.loop-left-smaller
loop-left-smaller g c =
    let popped = ap left_weight c.in-Some.ensures.items ∙ weight_last c.pop.new.self.items c.in-Some.left in
    omega (arith, popped, c.in_ok-resume.ensures.less)

pub loop-left-preserved : goal.loop-left-preserved
loop-left-preserved g c = λ start os h.
    let l = c.loop-left in
    let E = g.E.Events in
    let u = merge_patch (tree c.args.target) (tree c.args.patch) in
    let last = ap reverse c.in-Some.ensures.items ∙ reverse-append c.pop.new.self.items (c.in-Some.left ∷ []) in
    c.in_ok-resume.ensures.waits start os u
    (subst (λ xs. Waits (E.holds start) (E.is start) os u xs l.events) last (l.invariant start os h))

pub returns : goal.returns
returns g c = λ start os h.
    let l = c.loop-left in
    let E = g.E.Events in
    let u = merge_patch (tree c.args.target) (tree c.args.patch) in
    let none : l.stack.items ≡ [] = nil_from_length l.stack.items (omega (arith, l.stack.ok.0, c.in_default.ensures.cases)) in
    subst (λ xs. Waits (E.holds start) (E.is start) os u (reverse xs) l.events) none (l.invariant start os h)
