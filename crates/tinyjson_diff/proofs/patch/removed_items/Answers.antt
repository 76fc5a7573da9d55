use Rattle.std.proofs.Common.{◌≡◌, ◌-◌, suc, length, take, refl, sym, subst, arith}
use Rattle.tinyjson_diff.specs.Steps.{actions_of}
use Rattle.tinyjson_diff.specs.declared.step.Change.TheVariants as change
use Rattle.tinyjson_diff.proofs.Items.{RemovesLast, last_ends, taken_length, taking_begins, taking_next}
use Rattle.tinyjson_diff.proofs.Steps.{pushed_item}
use Rattle.tinyjson_diff.proofs.patch.removed_items.Goals as goal

pub loop-count-init : goal.loop-count-init
loop-count-init c =
    let vs = c.args.before.now in
    let ws = c.args.after.now in (
      omega arith,
      subst (λ l. RemovesLast vs ws (take (length vs) vs) (actions_of l)) (sym c.new-steps.ensures.items)
          (taking_begins vs ws (length vs) refl),
    )

pub loop-count-preserved : goal.loop-count-preserved
loop-count-preserved c =
    let vs = c.args.before.now in
    let ws = c.args.after.now in
    let n = c.loop-count.count in
    let at = c.in_ok-at_index.ensures in
    let inv = c.loop-count.invariant in
    let next : n ≡ suc (n - 1) = omega (arith, c.loop-count-test.true) in (
      omega (arith, inv.0),
      subst (RemovesLast vs ws (take (n - 1) vs))
          (sym (pushed_item c.loop-count.steps.items c.push.new.self.items c.in_ok-at_index.field-0 change.Remove (n - 1)
          c.in_ok-push.ensures.items at))
          (taking_next vs ws n (n - 1) at.0 (actions_of c.loop-count.steps.items) inv.1 next inv.0
          (omega (arith, c.loop-count-test.true)) at.1),
    )

pub slice_bounds-result-end : goal.slice_bounds-result-end
slice_bounds-result-end c =
    sym (taken_length c.args.before.now c.loop-count.count c.loop-count.invariant.0)

pub returns : goal.returns
returns c =
    let vs = c.args.before.now in
    let ws = c.args.after.now in
    let n = c.loop-count.count in
    let inv = c.loop-count.invariant in
    last_ends vs ws (take n vs) (actions_of c.loop-count.steps.items) inv.1
    (omega (arith, taken_length vs n inv.0, c.loop-count-test.false))
