use Rattle.std.proofs.Common.{◌≡◌, ◌+◌, ◌-◌, ◌/◌, ◌<◌, slice_index, sym, ap, subst, ◌∙◌, arith, drop_of_length-le}
use Rattle.text_categories.specs.Runs.{run_category}
use Rattle.text_categories.proofs.Runs.{category_here, category_nothing, category_after, category_drop}
use Rattle.text_categories.proofs.search.Goals as goal

pub loop-low-preserved : goal.loop-low-preserved
loop-low-preserved c =
    let held = c.loop-low.invariant in
    let mid = c.loop-low.low + (c.loop-low.high - c.loop-low.low) / 2 in
    (omega arith, held.1, category_after c.args.runs.now mid c.args.c c.requires (omega arith) c.if-c-runs.false, held.3)

pub returns-then-low-runs : goal.returns-then-low-runs
returns-then-low-runs c =
    let held = c.loop-low.invariant in
    let met : c.loop-low.high ≡ c.loop-low.low = omega arith in
    let below = subst (λ k. c.args.c < slice_index c.args.runs.now k / 32) met (held.3 (omega arith)) in
    sym (held.2 ∙ (category_drop _ _ _ c.if-low-runs.true ∙ category_here _ _ _ below))

pub returns-else-low-runs : goal.returns-else-low-runs
returns-else-low-runs c =
    sym (c.loop-low.invariant.2
    ∙ (ap (λ l. run_category l c.args.c) (drop_of_length-le _ c.if-low-runs.false) ∙ category_nothing c.args.c))
