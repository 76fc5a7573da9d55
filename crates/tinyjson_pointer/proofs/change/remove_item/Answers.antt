use Rattle.std.proofs.Common.{arith, ◌≡◌, ◌≤◌, ◌^◌, ℕ, length, Some, refl}
use Rattle.std.specs.Str.{chars}
use Rattle.tinyjson_pointer.proofs.Children.{none_removed, no_removal, removal}
use Rattle.tinyjson_pointer.specs.Index.{index_of}
use Rattle.tinyjson_pointer.proofs.change.remove_item.Goals as goal

pub returns-in_err-at : goal.returns-in_err-at
returns-in_err-at c =
    let l = c.args.items.now in
    let past : (i : ℕ) → index_of (chars c.args.token.now) ≡ Some i → length l.items ≤ i
    = λ i e. let h : 2 ^ 64 ≤ i = c.in_err-at.ensures i e in omega (arith, l.small, l.ok) in
    none_removed _ _ _ _ c.from_residual.result c.from_residual.ensures (no_removal l (chars c.args.token.now) past) refl

pub returns-then-at-len : goal.returns-then-at-len
returns-then-at-len c =
    let l = c.args.items.now in
    let past : (i : ℕ) → index_of (chars c.args.token.now) ≡ Some i → length l.items ≤ i
    = λ i e. let at : index_of (chars c.args.token.now) ≡ Some c.in_ok-at.at = c.in_ok-at.ensures in
    let same : c.in_ok-at.at ≡ i = cc in omega arith in
    (no_removal l (chars c.args.token.now) past, refl)

pub returns : goal.returns
returns c = removal c.args.items.now.items c.remove.new.self.items (chars c.args.token.now) c.in_ok-at.at c.remove.result
    c.in_ok-at.ensures (omega arith) c.remove.ensures.value c.remove.ensures.items
