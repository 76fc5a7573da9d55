-- A change of a part that was moved out of the whole.
use Rattle.std.proofs.Common.{◌≡◌, ℕ, List, Option, Some, Result, Ok, Err, option_map, sym, subst}
use Rattle.std.proofs.Common.{ap, ◌∙◌}
use Rattle.std.specs.Prelude.{option_and_then}
use Rattle.tinyjson_grammar.specs.Tree.{Tree}
use Rattle.tinyjson_pointer.specs.Walk.{part_at, with_part}
use Rattle.tinyjson_patch.specs.private.Changes.{effect, taken, Changes, ChangesPart}
use Rattle.tinyjson_patch.specs.private.Opening.{Descends}
use Rattle.tinyjson_patch.specs.declared.edit.edited.Edited.{Edited}
use Rattle.tinyjson_patch.specs.declared.edit.change.Change.{Change}
use Rattle.tinyjson_patch.specs.declared.edit.change.ChangeError.{ChangeError}
use Rattle.tinyjson_patch.specs.declared.edit.change.ChangeError.TheVariants.{NoPlace, OutOfMemory}
use Rattle.tinyjson_patch.specs.declared.edit.opened.Opened.{Opened}

-- what a change of the part at the tokens is to the whole
pub changes_from : (c : Change) (t p p' t' : Tree) (ks : List (List ℕ)) (r : Result (Option Edited) ChangeError)
    → part_at t ks ≡ Some p → ChangesPart c p r p' → t' ≡ with_part t ks p' → Changes c t ks r t'
changes_from c t p p' t' ks (Ok o) there h same = (
  ap (option_and_then (λ x. option_map (with_part t ks) (effect c x))) there ∙ (ap (option_map (with_part t ks)) h.0 ∙ ap Some (sym same)),
  h.1 ∙ sym (ap (option_and_then (taken c)) there),
)
changes_from c t p p' t' ks (Err NoPlace) there h same =
    ap (option_and_then (λ x. option_map (with_part t ks) (effect c x))) there ∙ ap (option_map (with_part t ks)) h
changes_from c t p p' t' ks (Err OutOfMemory) there h same = tt

-- where the tokens name no part, there is nothing to change
pub changes_nothing : (c : Change) (t p t' : Tree) (ks : List (List ℕ)) (os os' : List Opened) (e : ChangeError)
    (r : Result (Option Edited) ChangeError) → Descends t ks (Err e) os os' p → r ≡ Err e → Changes c t ks r t'
changes_nothing c t p t' ks os os' e r h is = subst (λ x. Changes c t ks x t') (sym is) (by e h)
  where
    by : (f : ChangeError) → Descends t ks (Err f) os os' p → Changes c t ks (Err f) t'
    by NoPlace none = ap (option_and_then (λ x. option_map (with_part t ks) (effect c x))) none
    by OutOfMemory none = tt
