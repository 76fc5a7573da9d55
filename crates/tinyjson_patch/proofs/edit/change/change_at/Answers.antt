use Rattle.std.proofs.Common.{map, subst, sym}
use Rattle.tinyjson.specs.View.{text}
use Rattle.tinyjson_patch.specs.private.Changes.{Changes}
use Rattle.tinyjson_patch.specs.private.Edited.{tree}
use Rattle.tinyjson_patch.proofs.edit.change.change_at.Goals as goal

pub returns : goal.returns
returns c =
    let ks = map text c.args.tokens.now in
    let r = c.change_below-answer.result in
    let t' = tree c.close_all.result in
    subst (λ e. Changes c.args.change (tree e) ks r t') c.take-part.ensures.old
    (subst (Changes c.args.change (tree c.take-part.result) ks r) (sym c.close_all.ensures) c.change_below-answer.ensures)
