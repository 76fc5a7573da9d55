use Rattle.std.proofs.Common.{arith, ◌≡◌, ◌≤◌, ◌^◌, ℕ, length, map, option_map, Some, refl}
use Rattle.std.proofs.lemmas.List.{length-map}
use Rattle.std.specs.Box.{box_value}
use Rattle.std.specs.Str.{chars}
use Rattle.tinyjson_pointer.proofs.Beside.{nothing_there, removes_at, same_items, held_in, held_out, held_at, held_left, box_none}
use Rattle.tinyjson_pointer.proofs.Children.{none_removed}
use Rattle.tinyjson_pointer.specs.Index.{index_of}
use Rattle.tinyjson_pointer.proofs.siblings.remove_at.Goals as goal

pub returns-in_err-index : goal.returns-in_err-index
returns-in_err-index c =
    let q = c.args.items.now in
    let vs = map box_value q.items in
    let past : (i : ℕ) → index_of (chars c.args.token.now) ≡ Some i → length vs ≤ i
    = λ i e. let h : 2 ^ 64 ≤ i = c.in_err-index.ensures i e in omega (arith, q.small, q.ok, length-map q.items box_value) in
    none_removed _ _ _ _ (option_map box_value c.from_residual.result) (box_none c.from_residual.result c.from_residual.ensures)
    (nothing_there vs (chars c.args.token.now) (index_of (chars c.args.token.now)) refl past) refl

pub returns : goal.returns
returns c =
    let q = c.args.items.now in
    let i = c.in_ok-index.field-0 in
    let r = c.remove.result in
    let n : length (map box_value q.items) ≡ length q.items = length-map q.items box_value in
    removes_at (map box_value q.items) (map box_value c.remove.new.self.items) (chars c.args.token.now) i (option_map box_value r)
    c.in_ok-index.ensures
    (λ some. let h = c.remove.ensures.variant.0 (held_in r some) in omega (arith, n, q.small, q.ok, h))
    (λ below. held_out r (c.remove.ensures.variant.1 (omega (arith, n, below, q.small, q.ok))))
    (same_items q c.remove.new.self r c.remove.ensures.unchanged) (held_at q.items i r c.remove.ensures.value)
    (held_left q.items c.remove.new.self.items i r c.remove.ensures.items)
