-- Why a value has not the form that it needs.
use Rattle.std.proofs.Common.{◌≡◌, ℕ, ◌⊎◌, List, Some, None, Result, Ok, Err, IfOk, String, Global, codes, refl, sym, ap, ◌∙◌, subst}
use Rattle.std.specs.declared.alloc.AllocError.{AllocError}
use Rattle.tinyjson.proofs.Callers.{string_from_tree, view_String}
use Rattle.tinyjson.specs.Access.Laws.{put_of_string}
use Rattle.tinyjson.specs.Tree.{Tree, string}
use Rattle.tinyjson.specs.View.{view, text}
use Rattle.tinyjson.specs.declared.value.JsonValue.{JsonValue}
use Rattle.tinyjson.specs.declared.value.JsonValue.TheVariants as is
use Rattle.tinyjson_schema_keywords.specs.declared.keyword.Form.{Form}
use Rattle.tinyjson_schema_keywords.specs.declared.keyword.Form.TheVariants as form
use Rattle.tinyjson_schema_report.specs.Faults.{IsFault}
use Rattle.tinyjson_schema_report.specs.Refused.{told, unknown, wanted, TellsForm, TellsPattern}

-- a fact about a result that follows from another
pub also : {P Q : String Global → Type 0} (r : Result (String Global) AllocError) → ((s : String Global) → P s → Q s) → IfOk r P → IfOk r Q
also (Ok s) f h = f s h
also (Err e) f h = tt

pub other_form : (root : Tree) (f : Form) (w : Tree) (bs : List ℕ) → (f ≡ form.Pattern → ⊥) → (f ≡ form.Reference → ⊥)
    → bs ≡ told (wanted f) w → TellsForm root f w bs
other_form root form.Pattern w bs n m h = absurd (n refl)
other_form root form.Reference w bs n m h = absurd (m refl)
other_form root _ w bs n m h = h

no_string : (v : JsonValue) → ((s : String Global) → v ≡ is.String s → ⊥) → (cs : List ℕ) → view v ≡ string cs → ⊥
no_string v other cs h = let f = string_from_tree v cs h in other f.0 (sym (put_of_string v f.0 f.1))

other_tree : (t : Tree) (bs : List ℕ) → ((cs : List ℕ) → t ≡ string cs → ⊥) → bs ≡ told (codes "must be a pattern") t → TellsPattern t bs
other_tree (string cs) bs n h = absurd (n cs refl)
other_tree _ bs n h = h

pub other_value : (v : JsonValue) (bs : List ℕ) → ((s : String Global) → v ≡ is.String s → ⊥)
    → bs ≡ told (codes "must be a pattern") (view v) → TellsPattern (view v) bs
other_value v bs other h = other_tree (view v) bs (no_string v other) h

-- the words for a string
pub of_string : (v : JsonValue) (s : String Global) (cs bs : List ℕ) → v ≡ is.String s → cs ≡ text s
    → IsFault cs (Some bs) ⊎ (IsFault cs None × (bs ≡ unknown)) → TellsPattern (view v) bs
of_string v s cs bs e t h =
    subst (λ u. TellsPattern u bs) (sym (ap view e ∙ view_String s))
    (subst (λ xs. IsFault xs (Some bs) ⊎ (IsFault xs None × (bs ≡ unknown))) t h)
