use Rattle.std.proofs.Common.{arith, ◌≤◌, ◌<◌, ◌^◌, length, Some, None, refl, ap, ◌∙◌}
use Rattle.std.specs.Str.{chars}
use Rattle.tinyjson.specs.View.{view}
use Rattle.tinyjson_pointer.proofs.Beside.{item_past, item_gone, item_is}
use Rattle.tinyjson_pointer.proofs.siblings.item_at.Goals as goal

pub returns-in_err-index : goal.returns-in_err-index
returns-in_err-index c =
    let q = c.args.items.now in
    item_past q.items (chars c.args.token.now) c.from_residual.result c.from_residual.ensures
    (λ i e. let h : 2 ^ 64 ≤ i = c.in_err-index.ensures i e in omega (arith, q.small, q.ok, h))

pub returns-in-None : goal.returns-in-None
returns-in-None c =
    let q = c.args.items.now in
    let i = c.in_ok-index.field-0 in
    let past : length q.items ≤ i = grind (arith, c.in-None.ensures.variant.1, q.small, q.ok) in
    item_gone q.items (chars c.args.token.now) i None refl c.in_ok-index.ensures past

pub returns-in-Some : goal.returns-in-Some
returns-in-Some c =
    let q = c.args.items.now in
    let i = c.in_ok-index.field-0 in
    let below : i < q.len = c.in-Some.ensures.variant.0 refl in
    ap (λ v. Some (view v)) c.deref.ensures
    ∙ item_is q.items (chars c.args.token.now) i c.in-Some.item.now c.in_ok-index.ensures (omega (arith, below, q.small, q.ok))
    c.in-Some.ensures.lookup
