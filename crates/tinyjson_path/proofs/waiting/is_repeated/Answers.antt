use Rattle.std.proofs.Common.{◌≡◌, ◌∙◌, ap, sym, subst}
use Rattle.tinyjson_path.specs.Nodes.{path_of, path_view}
use Rattle.tinyjson_path.specs.Waiting.{EndAlike}
use Rattle.tinyjson_path.specs.declared.node.Located.{Located}
use Rattle.tinyjson_path.proofs.waiting.is_repeated.Goals as goal

pub returns-then-is_step_same : goal.returns-then-is_step_same
returns-then-is_step_same c = λ yes.
    let m = c.index-before-index.result in
    let here : c.deref-in-loop-index.result.now ≡ m.location.value =
    c.deref-in-loop-index.ensures ∙ ap (λ (n : Located). n.location.value) (sym c.index-before-index.is) in (
      c.loop-index.index,
      m,
      c.loop-index-test.true,
      c.index-before-index.is,
      subst (λ l. EndAlike (path_of c.args.node.now) (path_view l)) here
          (subst (λ l. EndAlike (path_view l) (path_view c.deref-in-loop-index.result.now)) c.deref.ensures
          (c.is_step_same.ensures c.if-is_step_same.true)),
    )
