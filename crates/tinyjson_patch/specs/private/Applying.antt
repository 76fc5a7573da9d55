-- What an operation of a patch makes of a tree. For private contracts.
use Rattle.std.specs.Prelude.{◌≡◌, ℕ, List, Result, Ok, Err}
use Rattle.tinyjson_grammar.specs.Tree.{Tree}
use Rattle.tinyjson_patch.specs.declared.operation.Reason.{Reason}
use Rattle.tinyjson_pointer.specs.Change.{with_new_part, changed_at}
use Rattle.tinyjson_patch.specs.private.Changes.{effect}
use Rattle.tinyjson_patch.specs.declared.edit.change.Change.{Change}
use Rattle.tinyjson_patch.specs.declared.edit.change.ChangeError.{ChangeError}
use Rattle.tinyjson_patch.specs.declared.edit.change.ChangeError.TheVariants.{NoPlace, OutOfMemory}
use Rattle.tinyjson_patch.specs.declared.edit.apply.Stop.{Stop}
use Rattle.tinyjson_patch.specs.declared.edit.apply.Stop.TheVariants as stop

-- The result of an operation that may take parts apart.
abbrev pub Completes : Result Tree Reason → Result (Unit {0}) Stop → Tree → Type 0
Completes outcome (Ok _) t' = outcome ≡ Ok t'
Completes outcome (Err (stop.Failed r)) t' = outcome ≡ Err r
Completes outcome (Err stop.OutOfMemory) t' = Unit {0}
Completes outcome (Err stop.TakenApart) t' = ⊥

-- The same on the tree t if it may also stop before a change.
abbrev pub Applies : Result Tree Reason → Tree → Result (Unit {0}) Stop → Tree → Type 0
Applies outcome t (Err stop.TakenApart) t' = t' ≡ t
Applies outcome t result t' = Completes outcome result t'

-- The change of the part at the tokens is the insertion of u at the path.
abbrev pub IsInsertion : List (List ℕ) → Tree → Change → List (List ℕ) → Type 0
IsInsertion path u c ks = (t : Tree) → with_new_part t path u ≡ changed_at (effect c) t ks

-- Nothing was found, for this reason, or memory ran out.
abbrev pub StopsFor : ChangeError → Reason → Stop → Type 0
StopsFor NoPlace r s = s ≡ stop.Failed r
StopsFor OutOfMemory r s = s ≡ stop.OutOfMemory
