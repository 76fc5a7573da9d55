use Rattle.std.proofs.Common.{Ok, ap, subst, ◌∙◌}
use Rattle.std.specs.Str.{chars}
use Rattle.tinyjson_patch.specs.private.Edited.{tree}
use Rattle.tinyjson_patch.specs.private.Opening.{Opens}
use Rattle.tinyjson_patch.proofs.Editing.Opening.{stepped}
use Rattle.tinyjson_patch.proofs.edit.opened.step_down.Goals as goal

pub returns : goal.returns
returns c =
    let k = chars c.args.token.now in
    let outer = c.in_ok-outer.outer in
    let inner = c.in_ok-outer.inner in
    stepped (tree c.args.part.now) k c.args.opened.now.items c.push.new.opened.items outer inner c.push.result
    (subst (λ t. Opens t k (Ok (outer, inner))) (ap tree c.take.ensures.old ∙ c.expand.ensures.same) c.in_ok-outer.ensures) c.push.ensures
