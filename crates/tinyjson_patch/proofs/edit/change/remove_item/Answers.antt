use Rattle.std.proofs.Common.{◌≡◌, ◌≤◌, ◌<◌, ◌^◌, length, arith, ap, refl, sym, ◌∙◌}
use Rattle.std.proofs.lemmas.Option.{same_Some}
use Rattle.std.specs.Str.{chars}
use Rattle.tinyjson_patch.specs.private.Edited.{tree}
use Rattle.tinyjson_patch.proofs.Editing.Steps.{no_removal, removal_of}
use Rattle.tinyjson_patch.proofs.edit.change.remove_item.Goals as goal

pub returns-in_default : goal.returns-in_default
returns-in_default c =
    let l = c.args.items.now in
    no_removal l.items (chars c.args.token.now) (λ i e. let h : 2 ^ 64 ≤ i = c.in_default.ensures i e in omega (arith, l.small, l.ok))

pub returns-in-None : goal.returns-in-None
returns-in-None c =
    let l = c.args.items.now in
    let past : length l.items ≤ c.in-Some.at = grind (arith, c.in-None.ensures.variant.1, l.small, l.ok) in
    no_removal l.items (chars c.args.token.now) (λ i e.
    let same : c.in-Some.at ≡ i = same_Some _ _ (sym c.in-Some.ensures ∙ e) in omega (arith, same, past))

pub returns-in-Some-remove : goal.returns-in-Some-remove
returns-in-Some-remove c =
    let l = c.args.items.now in
    let below : c.in-Some.at < l.len = c.in-Some-remove.ensures.variant.0 refl in
    removal_of l.items c.remove.new.self.items (chars c.args.token.now) c.in-Some.at c.in-Some-remove.old c.into_inner.result
    c.in-Some.ensures (omega (arith, below, l.small, l.ok)) c.in-Some-remove.ensures.value c.in-Some-remove.ensures.items
    (ap tree c.into_inner.ensures)
