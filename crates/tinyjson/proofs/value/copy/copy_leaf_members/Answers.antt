use Rattle.std.proofs.Common.{length, sym, ap, ◌∙◌, arith}
use Rattle.tinyjson.specs.private.Copy.{put_all}
use Rattle.tinyjson.specs.View.{members_view}
use Rattle.tinyjson.proofs.value.copy.copy_leaf_members.Goals as goal

pub loop-key-smaller : goal.loop-key-smaller
loop-key-smaller c = omega (arith, ap length c.in-Some.ensures.steps)

pub returns-clause-view : goal.returns-clause-view
returns-clause-view c = ap (λ r. put_all r (members_view c.loop-key.copies.entries)) (sym c.in_default.ensures.steps.0)
    ∙ c.loop-key.invariant.0
