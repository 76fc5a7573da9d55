use Rattle.std.proofs.Common.{Err, Some, subst}
use Rattle.tinyjson_view.specs.Views.{tree_of}
use Rattle.tinyjson_diff.specs.Changes.{Changes}
use Rattle.tinyjson_diff.specs.Merging.{GivesMergePatch}
use Rattle.tinyjson_diff.proofs.Unreached.{whole_error}
use Rattle.tinyjson_diff.proofs.Values.{some_tree}
use Rattle.tinyjson_diff.proofs.merge.merge_diff.Goals as goal

pub returns-in-Err : goal.returns-in-Err
returns-in-Err g c =
    let t = tree_of c.as_view-old.result in
    let u = tree_of c.as_view-new.result in
    subst (λ x. GivesMergePatch x (g.N.AsView.tree c.args.new) (Err c.in-Err.error)) c.as_view-old.ensures
    (subst (λ y. GivesMergePatch t y (Err c.in-Err.error)) c.as_view-new.ensures
    (whole_error t u c.in-Err.error (some_tree u c.if-is_null.ensures) (subst (Changes (Some t) u) c.in-Err.is c.change.ensures)))
