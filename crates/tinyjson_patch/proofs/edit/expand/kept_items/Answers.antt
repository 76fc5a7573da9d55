use Rattle.std.proofs.Common.{◌∙◌, ◌+◌, drop, ap, sym}
use Rattle.tinyjson_view.proofs.Callers.{drop_at, drop_past}
use Rattle.tinyjson_patch.proofs.Editing.Taking.{kept_before, no_more, one_more}
use Rattle.tinyjson_patch.proofs.edit.expand.kept_items.Goals as goal

pub loop-view-preserved : goal.loop-view-preserved
loop-view-preserved c =
    let es = c.loop-view.items.items in
    let vs = c.deref-view-items.result.now in
    let i = c.loop-view.view-index in
    let rest = drop (i + 1) vs in
    ap (λ xs. kept_before xs rest) c.in_ok-push_back.ensures.items
    ∙ (one_more es c.in_ok-new.field-0 c.view-item.result rest c.in_ok-new.ensures.ok
    ∙ (ap (kept_before es) (sym (drop_at vs i c.view-item.result c.loop-view-test.true c.view-item.is)) ∙ c.loop-view.invariant))

pub returns : goal.returns
returns c =
    let es = c.loop-view.items.items in
    no_more es
    ∙ (ap (kept_before es) (sym (drop_past c.deref-view-items.result.now c.loop-view.view-index c.loop-view-test.false))
    ∙ c.loop-view.invariant)
