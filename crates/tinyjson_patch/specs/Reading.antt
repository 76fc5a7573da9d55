-- The results of reading the parts of a patch document.
use Rattle.std.specs.Borrow.{Bor}
use Rattle.std.specs.Prelude.{List, ℕ, Result, MatchResult, IsTrue, String, codes}
use Rattle.std.specs.declared.alloc.Global.{Global}
use Rattle.tinyjson.specs.Access.{is_object}
use Rattle.tinyjson.specs.Tree.{Tree}
use Rattle.tinyjson.specs.View.{view, text}
use Rattle.tinyjson.specs.declared.value.JsonValue.{JsonValue}
use Rattle.tinyjson_pointer.specs.Tokens.{tokens_of}
use Rattle.tinyjson_pointer.specs.declared.pointer.Pointer.{Pointer}
use Rattle.tinyjson_patch.specs.Document.{IsOperation, HasFault, HasString, HasName, HasPointer, HasValue}
use Rattle.tinyjson_patch.specs.Document.{Needs, NeedsString, NeedsPointer}
use Rattle.tinyjson_patch.specs.Operation.{Action, action_of}
use Rattle.tinyjson_patch.specs.declared.document.Name.{Name}
use Rattle.tinyjson_patch.specs.declared.document.Name.TheVariants as named
use Rattle.tinyjson_patch.specs.declared.document.ReadError.{ReadError}
use Rattle.tinyjson_patch.specs.declared.document.ReadError.TheVariants.{Malformed, OutOfMemory}
use Rattle.tinyjson_patch.specs.declared.fault.Member.{Member}
use Rattle.tinyjson_patch.specs.declared.fault.Member.TheVariants.{Value}
use Rattle.tinyjson_patch.specs.declared.operation.Operation.{Operation}

abbrev pub name : Name → List ℕ
name named.Add = codes "add"
name named.Remove = codes "remove"
name named.Replace = codes "replace"
name named.Move = codes "move"
name named.Copy = codes "copy"
name named.Test = codes "test"

abbrev pub IsNoOperation : Tree → Type 0
IsNoOperation t = (a : Action) → ¬ IsOperation t a

-- the tree is no operation, and has the fault
abbrev pub Refused : Tree → ReadError → Type 0
Refused t (Malformed f) = HasFault t f × IsNoOperation t
Refused t OutOfMemory = Unit {0}

abbrev pub ReadsOperation : Tree → Result Operation ReadError → Type 0
ReadsOperation t result = MatchResult result (λ o. IsOperation t (action_of o)) (Refused t)

abbrev pub ReadsName : Tree → Result Name ReadError → Type 0
ReadsName t result = MatchResult result (λ n. HasName t (name n)) (λ e. IsTrue (is_object t) → Refused t e)

-- the result for a member that is needed
abbrev pub ReadsString : Tree → Member → Result (Bor (String Global)) ReadError → Type 0
ReadsString t m result = MatchResult result (λ s. HasString t m (text s.now)) (λ e. NeedsString t m → Refused t e)

abbrev pub ReadsPointer : Tree → Member → Result Pointer ReadError → Type 0
ReadsPointer t m result = MatchResult result (λ p. HasPointer t m (tokens_of p)) (λ e. NeedsPointer t m → Refused t e)

abbrev pub ReadsValue : Tree → Result JsonValue ReadError → Type 0
ReadsValue t result = MatchResult result (λ v. HasValue t (view v)) (λ e. Needs t Value → Refused t e)
