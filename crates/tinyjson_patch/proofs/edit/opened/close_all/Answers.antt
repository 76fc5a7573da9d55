use Rattle.std.proofs.Common.{◌≡◌, [], arith, ap, sym, ◌∙◌}
use Rattle.std.proofs.lemmas.List.{nil_from_length}
use Rattle.tinyjson_patch.specs.private.Edited.{tree}
use Rattle.tinyjson_patch.specs.private.Opening.{closed}
use Rattle.tinyjson_patch.proofs.Editing.Opening.{closed_last}
use Rattle.tinyjson_patch.proofs.edit.opened.close_all.Goals as goal

pub loop-outer-preserved : goal.loop-outer-preserved
loop-outer-preserved c =
    let l = c.loop-outer in
    let rest = c.pop.new.self.items in
    let u = tree l.part in
    ap (closed rest) c.close-part.ensures
    ∙ (sym (closed_last rest c.in-Some.outer u) ∙ (ap (λ os. closed os u) (sym c.in-Some.ensures.items) ∙ l.invariant))

pub returns : goal.returns
returns c =
    let l = c.loop-outer in
    let none : l.opened.items ≡ [] = nil_from_length l.opened.items (omega (arith, l.opened.ok.0, c.in_default.ensures.cases)) in
    ap (λ os. closed os (tree l.part)) (sym none) ∙ l.invariant
