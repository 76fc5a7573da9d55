-- Patch documents (RFC 6902, sections 3 and 4): which tree has which operations, and the fault of any other
-- tree.
use Rattle.std.specs.Prelude.{◌≡◌, ◌⊎◌, ◌<◌, ◌≤◌, ℕ, zero, suc, Bool, false, ◌||◌, List, [], ◌∷◌, Some, None, Result, Ok, Err}
use Rattle.std.specs.Prelude.{IsTrue, length, codes}
use Rattle.std.specs.Str.{bytes_eq}
use Rattle.tinyjson.specs.Access.{is_array, is_object, is_string}
use Rattle.tinyjson.specs.Index.{tree_at_key}
use Rattle.tinyjson.specs.Tree.{Tree, string, array, Items, no_items, item}
use Rattle.tinyjson_pointer.specs.Reading.{IsNoPointer}
use Rattle.tinyjson_pointer.specs.Text.{pointer_text}
use Rattle.tinyjson_patch.specs.Operation.{Action, add, remove, replace, move, copy, test}
use Rattle.tinyjson_patch.specs.Patch.{actions_of}
use Rattle.tinyjson_patch.specs.declared.fault.Fault.{Fault}
use Rattle.tinyjson_patch.specs.declared.fault.Fault.TheVariants.{NoObject, Missing, NoString, NoOperation, NoPointer, LongPointer}
use Rattle.tinyjson_patch.specs.declared.fault.Member.{Member}
use Rattle.tinyjson_patch.specs.declared.fault.Member.TheVariants.{Op, Path, From, Value}
use Rattle.tinyjson_patch.specs.declared.fault.PatchError.{PatchError}
use Rattle.tinyjson_patch.specs.declared.fault.PatchError.TheVariants.{NoArray, Malformed, OutOfMemory}
use Rattle.tinyjson_patch.specs.declared.patch.Patch.{Patch}

abbrev pub key : Member → List ℕ
key Op = codes "op"
key Path = codes "path"
key From = codes "from"
key Value = codes "value"

-- the name of an operation
abbrev pub is_name : List ℕ → Bool
is_name cs =
    bytes_eq cs (codes "add") || bytes_eq cs (codes "remove") || bytes_eq cs (codes "replace") || bytes_eq cs (codes "move")
    || bytes_eq cs (codes "copy") || bytes_eq cs (codes "test")

-- how many tokens a pointer may have
abbrev pub token_limit : ℕ
token_limit = 1000

-- the member is this string
abbrev pub HasString : Tree → Member → List ℕ → Type 0
HasString t m cs = tree_at_key t (key m) ≡ Some (string cs)

abbrev pub HasName : Tree → List ℕ → Type 0
HasName t name = HasString t Op name

-- the member is a pointer with these tokens
abbrev pub HasPointer : Tree → Member → List (List ℕ) → Type 0
HasPointer t m ks = HasString t m (pointer_text ks) × (length ks ≤ token_limit)

abbrev pub HasValue : Tree → Tree → Type 0
HasValue t u = tree_at_key t (key Value) ≡ Some u

-- The tree is this operation. Its other members are ignored.
abbrev pub IsOperation : Tree → Action → Type 0
IsOperation t (add path u) = HasName t (codes "add") × HasPointer t Path path × HasValue t u
IsOperation t (remove path) = HasName t (codes "remove") × HasPointer t Path path
IsOperation t (replace path u) = HasName t (codes "replace") × HasPointer t Path path × HasValue t u
IsOperation t (move from path) = HasName t (codes "move") × HasPointer t Path path × HasPointer t From from
IsOperation t (copy from path) = HasName t (codes "copy") × HasPointer t Path path × HasPointer t From from
IsOperation t (test path u) = HasName t (codes "test") × HasPointer t Path path × HasValue t u

-- each item is this operation, in order
abbrev pub AreOperations : Items → List Action → Type 0
AreOperations no_items [] = Unit {0}
AreOperations (item t ts) (a ∷ rest) = IsOperation t a × AreOperations ts rest
AreOperations _ _ = ⊥

abbrev pub IsPatch : Tree → List Action → Type 0
IsPatch (array ts) actions = AreOperations ts actions
IsPatch _ actions = ⊥

-- the members that an object needs, by the name of its operation: pointers, strings, and all
abbrev pub NeedsPointer : Tree → Member → Type 0
NeedsPointer t Path = IsTrue (is_object t)
NeedsPointer t From = HasName t (codes "move") ⊎ HasName t (codes "copy")
NeedsPointer t _ = ⊥

abbrev pub NeedsString : Tree → Member → Type 0
NeedsString t Op = IsTrue (is_object t)
NeedsString t m = NeedsPointer t m

abbrev pub Needs : Tree → Member → Type 0
Needs t Value = HasName t (codes "add") ⊎ HasName t (codes "replace") ⊎ HasName t (codes "test")
Needs t m = NeedsString t m

-- the fault of a tree that is no operation
abbrev pub HasFault : Tree → Fault → Type 0
HasFault t NoObject = is_object t ≡ false
HasFault t (Missing m) = Needs t m × (tree_at_key t (key m) ≡ None)
HasFault t (NoString m) = NeedsString t m × (u : Tree) × (tree_at_key t (key m) ≡ Some u) × (is_string u ≡ false)
HasFault t NoOperation = (cs : List ℕ) × HasName t cs × (is_name cs ≡ false)
HasFault t (NoPointer m) = NeedsPointer t m × (cs : List ℕ) × HasString t m cs × IsNoPointer cs
HasFault t (LongPointer m) = NeedsPointer t m × (ks : List (List ℕ)) × HasString t m (pointer_text ks) × (token_limit < length ks)

-- The items before this index are operations, and the item at it has the fault.
abbrev pub HasFaultAt : Items → ℕ → Fault → Type 0
HasFaultAt no_items n f = ⊥
HasFaultAt (item t ts) zero f = HasFault t f
HasFaultAt (item t ts) (suc n) f = ((a : Action) × IsOperation t a) × HasFaultAt ts n f

abbrev pub IsMalformed : Tree → ℕ → Fault → Type 0
IsMalformed (array ts) n f = HasFaultAt ts n f
IsMalformed _ n f = ⊥

-- The result of reading a document. An error other than out of memory means that it is no patch document.
abbrev pub ReadsPatch : Tree → Result Patch PatchError → Type 0
ReadsPatch t (Ok p) = IsPatch t (actions_of p)
ReadsPatch t (Err NoArray) = is_array t ≡ false
ReadsPatch t (Err (Malformed n f)) = IsMalformed t n f × ((actions : List Action) → ¬ IsPatch t actions)
ReadsPatch t (Err OutOfMemory) = Unit {0}
