use Rattle.std.proofs.Common.{◌≡◌, ◌≤◌, ◌<◌, ◌^◌, ℕ, Some, None, option_map, sym, ap, ◌∙◌, arith}
use Rattle.std.proofs.lemmas.Option.{same_Some}
use Rattle.std.specs.Str.{chars}
use Rattle.tinyjson_pointer.proofs.Viewed.{member_step, item_step, no_item_step, no_step}
use Rattle.tinyjson_pointer.specs.Index.{index_of}
use Rattle.tinyjson_pointer.proofs.view.child_part.Goals as goal

pub returns-in-Object : goal.returns-in-Object
returns-in-Object g c = c.member.ensures ∙ member_step (g.V.JsonView.tree c.args.view) (chars c.args.token.now) c.in-Object.ensures

pub returns-in_err-at-in-Array : goal.returns-in_err-at-in-Array
returns-in_err-at-in-Array g c =
    ap (option_map g.V.JsonView.tree) c.from_residual.ensures
    ∙ no_item_step (g.V.JsonView.tree c.args.view) (chars c.args.token.now) c.in-Array.ensures (λ i e.
    let far : 2 ^ 64 ≤ i = c.in_err-at-in-Array.ensures i e in
    omega (arith, far, c.len-count.type_inv, c.len-count.ensures))

pub returns-then-at-count : goal.returns-then-at-count
returns-then-at-count g c = no_item_step (g.V.JsonView.tree c.args.view) (chars c.args.token.now) c.in-Array.ensures (λ i e.
    let same : c.in_ok-at-in-Array.at ≡ i = same_Some _ _ (sym c.in_ok-at-in-Array.ensures ∙ e) in
    omega (arith, same, c.if-at-count.true, c.len-count.ensures))
