-- Changes of the part that tokens name. For private contracts.
use Rattle.std.specs.Prelude.{◌≡◌, ℕ, List, Option, Some, None, option_map, option_and_then, Result, Ok, Err}
use Rattle.std.specs.Str.{chars}
use Rattle.tinyjson_grammar.specs.Tree.{Tree}
use Rattle.tinyjson_pointer.specs.Change.{with_child, without_child, changed_at}
use Rattle.tinyjson_pointer.specs.Walk.{step, part_at}
use Rattle.tinyjson_patch.specs.private.Edited.{tree}
use Rattle.tinyjson_patch.specs.declared.edit.edited.Edited.{Edited}
use Rattle.tinyjson_patch.specs.declared.edit.change.Change.{Change}
use Rattle.tinyjson_patch.specs.declared.edit.change.Change.TheVariants.{Replace, Insert, Remove}
use Rattle.tinyjson_patch.specs.declared.edit.change.ChangeError.{ChangeError}
use Rattle.tinyjson_patch.specs.declared.edit.change.ChangeError.TheVariants.{NoPlace, OutOfMemory}

-- the part after the change, if there is a place for it
abbrev pub effect : Change → Tree → Option Tree
effect (Replace e) t = Some (tree e)
effect (Insert k e) t = with_child t (chars k.now) (tree e)
effect (Remove k) t = without_child t (chars k.now)

-- what the change takes out of the part
abbrev pub taken : Change → Tree → Option Tree
taken (Replace e) t = Some t
taken (Insert k e) t = None
taken (Remove k) t = step t (chars k.now)

-- The result of a change, given the tree with it and what it takes out. After an error the tree may be any tree.
abbrev pub ChangesTo : Option Tree → Option Tree → Result (Option Edited) ChangeError → Tree → Type 0
ChangesTo changed out (Ok o) t' = (changed ≡ Some t') × (option_map tree o ≡ out)
ChangesTo changed out (Err NoPlace) t' = changed ≡ None
ChangesTo changed out (Err OutOfMemory) t' = Unit {0}

abbrev pub ChangesPart : Change → Tree → Result (Option Edited) ChangeError → Tree → Type 0
ChangesPart c t result t' = ChangesTo (effect c t) (taken c t) result t'

abbrev pub Changes : Change → Tree → List (List ℕ) → Result (Option Edited) ChangeError → Tree → Type 0
Changes c t ks result t' = ChangesTo (changed_at (effect c) t ks) (option_and_then (taken c) (part_at t ks)) result t'

-- The result of inserting a part, given the tree with it, if there is a place for it.
abbrev pub Inserts : Option Tree → Result (Unit {0}) ChangeError → Tree → Type 0
Inserts with (Ok _) t' = with ≡ Some t'
Inserts with (Err NoPlace) t' = with ≡ None
Inserts with (Err OutOfMemory) t' = Unit {0}

-- The result of removing a part, given the part and the tree without it.
abbrev pub Removes : Option Tree → Option Tree → Result Edited ChangeError → Tree → Type 0
Removes part without (Ok old) t' = (part ≡ Some (tree old)) × (without ≡ Some t')
Removes part without (Err NoPlace) t' = without ≡ None
Removes part without (Err OutOfMemory) t' = Unit {0}
