use Rattle.std.proofs.Common.{cond, string_bytes, sym, ap, ◌∙◌}
use Rattle.tinyjson_schema_keywords.proofs.Callers.{drop_end}
use Rattle.tinyjson_schema_bundle.specs.Bundles.{marked, all_marked}
use Rattle.tinyjson_schema_bundle.specs.Scopes.{is_between, entered, scope_by, scope_at, reached_of}
use Rattle.tinyjson_schema_bundle.proofs.Scoping.{scope_turn}
use Rattle.tinyjson_schema_bundle.proofs.scope.scope_at.Goals.{then-is_between+in_ok-enter, else-is_between}
use Rattle.tinyjson_schema_bundle.proofs.scope.scope_at.Goals as goal

pub loop-mark-preserved : goal.loop-mark-preserved
loop-mark-preserved c =
    let ms = c.args.guide.now.marks.now in
    let r = c.args.guide.now.root.now in
    let x = c.mark-item.result in
    let old = all_marked c.loop-mark.scope.items in
    let more = entered (all_marked ms) r (string_bytes x.uri) old in
    let asked = c.is_between.ensures ∙ ap (λ p. is_between p c.args.place.now (marked x)) c.as_str.ensures.value in
    scope_turn (all_marked ms) r ms c.loop-mark.mark-index x c.loop-mark-test.true c.mark-item.is c.is_between.result old
    (all_marked c.if-is_between.scope.items) (scope_at (all_marked ms) r (reached_of c.args.state.now) c.args.place.now)
    (string_bytes c.args.state.now.entry) c.args.place.now asked
    (elim c.if-is_between.branch [
      | then-is_between+in_ok-enter w ↦
          ap (λ s. all_marked s.items) w.scope-is ∙ (w.in_ok-enter.ensures
          ∙ (ap (λ u. entered (all_marked ms) r u old) w.as_str-then-is_between.ensures.value
          ∙ ap (λ b. cond b more old) (sym w.if-is_between.true)))
      | else-is_between w ↦ ap (λ s. all_marked s.items) w.scope-is ∙ ap (λ b. cond b more old) (sym w.if-is_between.false)
    ])
    c.loop-mark.invariant

pub returns : goal.returns
returns c =
    let ms = c.args.guide.now.marks.now in
    let now = all_marked c.loop-mark.scope.items in
    sym (ap (λ xs. scope_by (all_marked ms) c.args.guide.now.root.now (all_marked xs) (string_bytes c.args.state.now.entry)
    c.args.place.now now) (drop_end ms c.loop-mark.mark-index c.loop-mark-test.false)) ∙ c.loop-mark.invariant
