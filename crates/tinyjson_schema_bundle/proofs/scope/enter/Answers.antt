use Rattle.std.proofs.Common.{◌∷◌, [], ◌++◌, cond, sym, ap, ◌∙◌}
use Rattle.std.proofs.lemmas.List.{map-append}
use Rattle.tinyjson_schema_keywords.proofs.Callers.{drop_end}
use Rattle.tinyjson_schema_bundle.specs.Bundles.{marked, all_marked}
use Rattle.tinyjson_schema_bundle.specs.Scopes.{is_entering, entered_by, entered}
use Rattle.tinyjson_schema_bundle.proofs.Scoping.{entered_turn}
use Rattle.tinyjson_schema_bundle.proofs.scope.enter.Goals.{then-branch+in_ok-copy+in_ok-push, else-branch}
use Rattle.tinyjson_schema_bundle.proofs.scope.enter.Goals as goal

pub loop-mark-preserved : goal.loop-mark-preserved
loop-mark-preserved c =
    let ms = c.args.guide.now.marks.now in
    let r = c.args.guide.now.root.now in
    let u = c.args.uri.now in
    let x = c.mark-item.result in
    let items = c.loop-mark.scope.items in
    let old = all_marked items in
    let more = old ++ marked x ∷ [] in
    let asked = c.in_ok-is_entering.ensures
    ∙ ap (λ xs. is_entering (all_marked ms) r (all_marked xs) u (marked x)) c.as_slice.ensures.value in
    entered_turn (all_marked ms) r ms c.loop-mark.mark-index x c.loop-mark-test.true c.mark-item.is c.in_ok-is_entering.field-0 old
    (all_marked c.if-branch.scope.items) (entered (all_marked ms) r u (all_marked c.args.scope.now.items)) u asked
    (elim c.if-branch.branch [
      | then-branch+in_ok-copy+in_ok-push w ↦
          ap (λ s. all_marked s.items) w.scope-is ∙ (ap all_marked w.in_ok-push.ensures.items
          ∙ (map-append marked items (w.in_ok-copy.copy ∷ []) ∙ (ap (λ m. old ++ m ∷ []) w.in_ok-copy.ensures
          ∙ ap (λ b. cond b more old) (sym w.if-branch.true))))
      | else-branch w ↦ ap (λ s. all_marked s.items) w.scope-is ∙ ap (λ b. cond b more old) (sym w.if-branch.false)
    ])
    c.loop-mark.invariant

pub returns : goal.returns
returns c =
    let ms = c.args.guide.now.marks.now in
    let now = all_marked c.loop-mark.scope.items in
    sym (ap (λ xs. entered_by (all_marked ms) c.args.guide.now.root.now (all_marked xs) c.args.uri.now now)
    (drop_end ms c.loop-mark.mark-index c.loop-mark-test.false)) ∙ c.loop-mark.invariant
