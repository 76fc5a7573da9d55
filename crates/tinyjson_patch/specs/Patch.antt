-- The operations of a patch, applied in order (RFC 6902, section 5).
use Rattle.std.specs.Prelude.{◌≡◌, ℕ, suc, List, [], ◌∷◌, Result, Ok, Err, map}
use Rattle.tinyjson.specs.Tree.{Tree}
use Rattle.tinyjson_patch.specs.Operation.{Action, action_of, applied}
use Rattle.tinyjson_patch.specs.declared.operation.Reason.{Reason}
use Rattle.tinyjson_patch.specs.declared.patch.ApplyError.{ApplyError}
use Rattle.tinyjson_patch.specs.declared.patch.ApplyError.TheVariants.{Failed, OutOfMemory}
use Rattle.tinyjson_patch.specs.declared.patch.Patch.{Patch}

abbrev pub actions_of : Patch → List Action
actions_of p = map action_of p.operations.items

-- the result of the other operations on the tree after the operation with this index, or its failure
abbrev pub after : ℕ → Result Tree Reason → (Tree → Result Tree (ℕ × Reason)) → Result Tree (ℕ × Reason)
after n (Ok t) others = others t
after n (Err r) others = Err (n, r)

-- The tree after all operations, of which the first has this index; or the index of the one that fails, and
-- why.
abbrev pub all_applied : ℕ → List Action → Tree → Result Tree (ℕ × Reason)
all_applied n [] t = Ok t
all_applied n (a ∷ rest) t = after n (applied a t) (λ u. all_applied (suc n) rest u)

-- The result of applying a patch, and the tree then; after an error it is unchanged.
abbrev pub AppliesAll : Result Tree (ℕ × Reason) → Tree → Result (Unit {0}) ApplyError → Tree → Type 0
AppliesAll outcome t (Ok _) t' = outcome ≡ Ok t'
AppliesAll outcome t (Err (Failed n r)) t' = (outcome ≡ Err (n, r)) × (t' ≡ t)
AppliesAll outcome t (Err OutOfMemory) t' = t' ≡ t

-- The same if an error may leave any tree.
abbrev pub RunsAll : Result Tree (ℕ × Reason) → Result (Unit {0}) ApplyError → Tree → Type 0
RunsAll outcome (Ok _) t' = outcome ≡ Ok t'
RunsAll outcome (Err (Failed n r)) t' = outcome ≡ Err (n, r)
RunsAll outcome (Err OutOfMemory) t' = Unit {0}
