-- Values that are counted, and what is left of a number. For private contracts.
use Rattle.std.specs.Borrow.{Bor}
use Rattle.std.specs.Prelude.{◌≡◌, ◌≤◌, ◌<◌, ◌+◌, ℕ, List, [], ◌∷◌, Option, Some, None, Result, Ok, Err, length, map}
use Rattle.tinyjson_document.specs.Document.{document_tree}
use Rattle.tinyjson_document.specs.Parts.{size}
use Rattle.tinyjson_document.specs.declared.document.Document.{Document}
use Rattle.tinyjson_grammar.specs.Tree.{Tree, array, object}
use Rattle.tinyjson_patch.specs.Operation.{Action, action_of}
use Rattle.tinyjson_patch.specs.declared.operation.Operation.{Operation}
use Rattle.tinyjson_patch.specs.Copies.{item_values, member_values, all_copies, IsWithin}
use Rattle.tinyjson_patch.specs.private.Edited.{part_tree}
use Rattle.tinyjson_patch.specs.declared.edit.First.{First}
use Rattle.tinyjson_patch.specs.declared.edit.First.TheVariants.{Written, Left}
use Rattle.tinyjson_patch.specs.declared.edit.error.EditError.{EditError}
use Rattle.tinyjson_patch.specs.declared.edit.find.Part.{Part}

-- how many values are nested in a tree
abbrev pub inner : Tree → ℕ
inner (array ts) = item_values ts
inner (object ms) = member_values ms
inner _ = 0

abbrev pub inside : List Part → ℕ
inside [] = 0
inside (p ∷ ps) = inner (part_tree p) + inside ps

-- n values are taken, or there are not as many
abbrev pub Takes : ℕ → ℕ → Option ℕ → Type 0
Takes left n (Some rest) = left ≡ rest + n
Takes left n None = left < n

-- The part is put on the stack, or nothing is nested in it.
abbrev pub IsPut : Part → List Part → List Part → Type 0
IsPut p old new = (inside new ≡ inner (part_tree p) + inside old) × (length new ≤ 1 + length old)

-- The same for each item or member of the tree.
abbrev pub Spreads : Tree → List Part → List Part → Type 0
Spreads t old new = (inside new + size t ≡ inner t + inside old) × (length new ≤ size t + length old)

-- What was taken from `before` is what the operations copy of t but those that are left copy of u.
abbrev pub IsTaken : ℕ → ℕ → List Action → Tree → List Action → Tree → Type 0
IsTaken before left actions t rest u = before + all_copies rest u ≡ left + all_copies actions t

-- Some operations were applied, and what they copy was taken.
abbrev pub TakesFirst : ℕ → ℕ → List Action → Tree → Result (Bor (List Operation)) EditError → Tree → Type 0
TakesFirst before left actions t (Ok rest) u = IsTaken before left actions t (map action_of rest.now) u
TakesFirst before left actions t (Err e) u = IsWithin {T = Unit {0}} before (all_copies actions t) (Err e)

-- The same where there is a document then.
abbrev pub TakesGiven : ℕ → ℕ → List Action → Tree → Result (Document × Bor (List Operation)) EditError → Type 0
TakesGiven before left actions t (Ok p) = IsTaken before left actions t (map action_of p.1.now) (document_tree p.0)
TakesGiven before left actions t (Err e) = IsWithin {T = Unit {0}} before (all_copies actions t) (Err e)

-- The same where all were applied, and the text is written.
abbrev pub TakesWritten : ℕ → ℕ → List Action → Tree → Result First EditError → Type 0
TakesWritten before left actions t (Ok (Written w)) = all_copies actions t ≤ before
TakesWritten before left actions t (Ok (Left d rest)) = IsTaken before left actions t (map action_of rest.now) (document_tree d)
TakesWritten before left actions t (Err e) = IsWithin {T = Unit {0}} before (all_copies actions t) (Err e)
