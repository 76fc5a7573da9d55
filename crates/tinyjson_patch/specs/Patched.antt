-- The document of a patched value.
use Rattle.std.specs.Borrow.{Bor}
use Rattle.std.specs.Io.KnownBytes.{Keeps}
use Rattle.std.specs.Prelude.{◌≡◌, ◌≤◌, ℕ, List, [], Option, length, map, Result, Ok, Err}
use Rattle.std.specs.declared.io.Error.{Error}
use Rattle.tinyjson.specs.Text.{compact}
use Rattle.tinyjson.specs.Written.{WritesText}
use Rattle.tinyjson_document.specs.Document.{document_tree}
use Rattle.tinyjson_document.specs.declared.document.Document.{Document}
use Rattle.tinyjson_grammar.specs.Tree.{Tree}
use Rattle.tinyjson_patch.specs.Operation.{Action, action_of}
use Rattle.tinyjson_patch.specs.Running.{last_applied}
use Rattle.tinyjson_patch.specs.declared.operation.Operation.{Operation}
use Rattle.tinyjson_patch.specs.declared.operation.Reason.{Reason}
use Rattle.tinyjson_patch.specs.declared.edit.First.{First}
use Rattle.tinyjson_patch.specs.declared.edit.First.TheVariants.{Written, Left}
use Rattle.tinyjson_patch.specs.declared.edit.error.EditError.{EditError}
use Rattle.tinyjson_patch.specs.declared.edit.error.EditError.TheVariants.{Failed, TooMuch, OutOfMemory}

-- The document has the tree after all operations; or the number of the one that fails, and why.
abbrev pub GivesDocument : Result Tree (ℕ × Reason) → Result Document EditError → Type 0
GivesDocument outcome (Ok d) = outcome ≡ Ok (document_tree d)
GivesDocument outcome (Err (Failed n r)) = outcome ≡ Err (n, r)
GivesDocument outcome (Err TooMuch) = Unit {0}
GivesDocument outcome (Err OutOfMemory) = Unit {0}

-- The text of the tree after all operations is written; or nothing is, with the number of the one that fails, and why.
abbrev pub WritesPatched : Result Tree (ℕ × Reason) → Option (List ℕ) → Option (List ℕ)
    → Result (Result (Unit {0}) Error) EditError → Type 0
WritesPatched outcome held holds (Ok written) = (t : Tree) × (outcome ≡ Ok t) × WritesText held holds (compact t) written
WritesPatched outcome held holds (Err (Failed n r)) = (outcome ≡ Err (n, r)) × Keeps held holds
WritesPatched outcome held holds (Err TooMuch) = Keeps held holds
WritesPatched outcome held holds (Err OutOfMemory) = Keeps held holds

-- Some of the operations were applied. Those that are left turn the tree into what all would. For private contracts.
abbrev pub RunsFirst : ℕ → List Action → Tree → Result (Bor (List Operation)) EditError → Tree → Type 0
RunsFirst total actions t (Ok rest) t' =
    (length rest.now ≤ length actions) × (last_applied total actions t ≡ last_applied total (map action_of rest.now) t')
RunsFirst total actions t (Err (Failed n r)) t' = last_applied total actions t ≡ Err (n, r)
RunsFirst total actions t (Err TooMuch) t' = Unit {0}
RunsFirst total actions t (Err OutOfMemory) t' = Unit {0}

-- The same where there is a document then. For private contracts.
abbrev pub GivesFirst : ℕ → List Action → Tree → Result (Document × Bor (List Operation)) EditError → Type 0
GivesFirst total actions t (Ok p) =
    (length p.1.now ≤ length actions) × (last_applied total actions t ≡ last_applied total (map action_of p.1.now) (document_tree p.0))
GivesFirst total actions t (Err (Failed n r)) = last_applied total actions t ≡ Err (n, r)
GivesFirst total actions t (Err TooMuch) = Unit {0}
GivesFirst total actions t (Err OutOfMemory) = Unit {0}

-- The same, or all were applied, and the text is written. For private contracts.
abbrev pub WritesFirst : ℕ → List Action → Tree → Option (List ℕ) → Option (List ℕ) → Result First EditError → Type 0
WritesFirst total actions t held holds (Ok (Written w)) =
    (u : Tree) × (last_applied total actions t ≡ Ok u) × WritesText held holds (compact u) w
WritesFirst total actions t held holds (Ok (Left d rest)) =
    (length rest.now ≤ length actions) × (last_applied total actions t ≡ last_applied total (map action_of rest.now) (document_tree d))
    × Keeps held holds
WritesFirst total actions t held holds (Err (Failed n r)) = (last_applied total actions t ≡ Err (n, r)) × Keeps held holds
WritesFirst total actions t held holds (Err TooMuch) = Keeps held holds
WritesFirst total actions t held holds (Err OutOfMemory) = Keeps held holds

-- What is done with the tree u where these operations are left. For private contracts.
abbrev pub WritesOrLeaves : Tree → List Operation → Option (List ℕ) → Option (List ℕ) → Result First EditError → Type 0
WritesOrLeaves u rest held holds (Ok (Written w)) = (rest ≡ []) × WritesText held holds (compact u) w
WritesOrLeaves u rest held holds (Ok (Left d others)) = (others.now ≡ rest) × (document_tree d ≡ u) × Keeps held holds
WritesOrLeaves u rest held holds (Err (Failed n r)) = ⊥
WritesOrLeaves u rest held holds (Err TooMuch) = ⊥
WritesOrLeaves u rest held holds (Err OutOfMemory) = Keeps held holds
