use Rattle.std.specs.Result.{IfOk}
use Rattle.std.proofs.Common.{subst}
use Rattle.tinyjson.specs.View.{view}
use Rattle.tinyjson_view.specs.Views.{tree_of}
use Rattle.tinyjson_diff.specs.Patching.{IsPatchBetween}
use Rattle.tinyjson_diff.specs.Steps.{actions_of}
use Rattle.tinyjson_diff.proofs.Promised.{promised}
use Rattle.tinyjson_diff.proofs.patch.patch_diff.Goals as goal

pub returns : goal.returns
returns g c =
    let t = tree_of c.as_view-old.result in
    let u = tree_of c.as_view-new.result in
    subst (λ x. IfOk c.document.result (λ p. IsPatchBetween x (g.N.AsView.tree c.args.new) (view p))) c.as_view-old.ensures
    (subst (λ y. IfOk c.document.result (λ p. IsPatchBetween t y (view p))) c.as_view-new.ensures
    (promised c.document.result t u (actions_of c.in_ok-steps.steps.items) c.in_ok-steps.ensures c.document.ensures))
