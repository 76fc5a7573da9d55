use Rattle.std.proofs.Common.{rules, ◌≡◌, ◌&&◌, true, sym, ap, ◌∙◌}
use Rattle.std.specs.Vec.Iter.{into_iter_items}
use Rattle.documentation_vectors.specs.Nulls.{all_null}
use Rattle.tinyjson.proofs.Callers.{is_null_view, left_next}
use Rattle.tinyjson.specs.Access.{is_null}
use Rattle.tinyjson.specs.View.{items_view, view}
use Rattle.documentation_vectors.proofs.examples.loops.are_null.Goals as goal

pub loop-item-preserved : goal.loop-item-preserved
loop-item-preserved c =
    let steps = c.in-Some.ensures.steps in
    let more = c.next.new.self in
    let null : is_null (view c.in-Some.item) ≡ true = search (rules, is_null_view) in (
      left_next c.args.items.items c.loop-item.item-iterator more c.in-Some.item c.loop-item.invariant.0 steps.0 steps.1,
      sym (ap (λ b. b && all_null (items_view (into_iter_items more))) null)
          ∙ (sym (ap (λ vs. all_null (items_view vs)) steps.0) ∙ c.loop-item.invariant.1),
    )
