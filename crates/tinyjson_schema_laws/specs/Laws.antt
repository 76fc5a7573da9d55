-- What the laws state.
use Rattle.std.specs.Option.{option_or}
use Rattle.std.specs.Prelude.{◌≡◌, ◌↔◌, ℕ, Bool, true, false, List, [], ◌∷◌, Some, ⊤, unwrap_or}
use Rattle.tinyjson.specs.Soundness.{IsTree}
use Rattle.tinyjson.specs.Tree.{Tree}
use Rattle.tinyjson.specs.View.{view}
use Rattle.tinyjson.specs.declared.value.JsonValue.{JsonValue}
use Rattle.text_uri.specs.Resolving.{without_fragment}
use Rattle.tinyjson_schema_bundle.specs.Bundles as bundle
use Rattle.tinyjson_schema_bundle.specs.Bundles.{Marked, marks_of, base_in, is_bundle, with_name, dynamic_place, begins_pointer}
use Rattle.tinyjson_schema_bundle.specs.Scopes.{Reached, AreCopies, some_contested, bundled, entered, settled}
use Rattle.tinyjson_schema.specs.Evaluated.{Answers, Child}
use Rattle.tinyjson_schema.specs.Schemas.{is_schema}
use Rattle.tinyjson_schema.specs.Valid.{Root, judge, IsValidIn}
use Rattle.tinyjson_schema_laws.specs.Scoped.{Scoped, Scope, IsValidScoped, judged, outermost}
use Rattle.tinyjson_schema_laws.specs.Short.{IsShort}

-- The document has several resources, no dynamic reference in it depends on what has led to it, and bundled it can be
-- applied.
pub record IsUncontested (t : Tree) : Type 0 where
  pub sound : IsTree t
  pub several : is_bundle (marks_of t) ≡ true
  pub none : some_contested (marks_of t) (base_in [] t) (marks_of t) ≡ false
  pub applied : is_schema (bundled [] t) true (bundled [] t) ≡ true

-- the bundled document as the root schema
abbrev pub bundled_root : Tree → Bool → Root
bundled_root t formats = record { tree = bundled [] t; formats = formats }

-- each schema has the same results, by the value alone
abbrev pub by_value : (Tree → Bool) → (Tree → Child → Bool) → Answers
by_value accepts evaluates = record { accepts = λ s u. accepts u; evaluates = λ s u c. evaluates u c }

-- At each number of nested schemas, the document judges by its dynamic scope as the bundled document does, if schemas
-- that are nested deeper have the same results.
abbrev pub SameResults : Type 0
SameResults = (t : Tree) → IsUncontested t → (formats : Bool) (n : ℕ) (accepts : Tree → Bool) (evaluates : Tree → Child → Bool) (u : Tree)
    → judged t formats n (λ c. by_value accepts evaluates) u
    ≡ judge (bundled_root t formats) n (by_value accepts evaluates) (bundled [] t) u

-- The document accepts by its dynamic scope exactly the values that the bundled document accepts.
abbrev pub Exact : Type 0
Exact = (t : Tree) → IsUncontested t → (formats : Bool) (u : Tree) → IsValidScoped t formats u ↔ IsValidIn (bundled_root t formats) u

-- Each value is decided: at some number of nested schemas the document accepts it or not, whatever the results of deeper
-- ones are.
abbrev pub EachDecided : Type 0
EachDecided = (t : Tree) → IsUncontested t → (formats : Bool) (u : Tree)
    → (is : Bool) × (n : ℕ) × ((g : Scoped) → judged t formats n g u ≡ is)

-- ---- scopes with contested names

-- the outermost resource of the scope is r
abbrev pub BeginsIn : List ℕ → Scope → Type 0
BeginsIn r [] = ⊥
BeginsIn r (u ∷ []) = u ≡ r
BeginsIn r (u ∷ v ∷ c) = BeginsIn r (v ∷ c)

-- the URIs of resources have no fragment
abbrev pub AreUris : Scope → Type 0
AreUris [] = ⊤
AreUris (u ∷ c) = (without_fragment u ≡ u) × AreUris c

-- what the bundled document keeps of a dynamic scope: the contested names of the resources entered
abbrev pub kept : List Marked → List ℕ → Scope → List Marked
kept all r [] = []
kept all r (u ∷ c) = entered all r u (kept all r c)

-- Where a dynamic reference first leads to a schema at q with its name n by `$dynamicAnchor`, the bundled document goes
-- on as the standard wants, with what it keeps of the scope.
abbrev pub ScopeDecides : Type 0
ScopeDecides = (t : Tree) (c : Scope) → BeginsIn (base_in [] t) c → AreUris c → (u n q : List ℕ) → without_fragment u ≡ u
    → begins_pointer n ≡ false → dynamic_place (marks_of t) (with_name u n) ≡ Some q
    → unwrap_or (option_or (bundle.outermost (marks_of t) (base_in [] t) n q) (settled (kept (marks_of t) (base_in [] t) c) n)) q
    ≡ unwrap_or (outermost (marks_of t) c n) q

-- ---- documents with copies

-- The document has several resources, no array in it has more than 2^64 items, and bundled with these copies it can be
-- applied.
pub record IsCopied (t : Tree) (copies : List Reached) : Type 0 where
  pub sound : IsTree t
  pub short : IsShort t
  pub several : is_bundle (marks_of t) ≡ true
  pub applied : is_schema (bundled copies t) true (bundled copies t) ≡ true
  pub states : AreCopies t copies

-- The document accepts by its dynamic scope exactly the values that the bundled document with its copies accepts.
abbrev pub ExactCopied : Type 0
ExactCopied = (t : Tree) (copies : List Reached) → IsCopied t copies → (formats : Bool) (u : Tree)
    → IsValidScoped t formats u ↔ IsValidIn (record { tree = bundled copies t; formats = formats }) u

-- Such a document decides on each value too.
abbrev pub DecidedCopied : Type 0
DecidedCopied = (t : Tree) (copies : List Reached) → IsCopied t copies → (formats : Bool) (u : Tree)
    → (is : Bool) × (n : ℕ) × ((g : Scoped) → judged t formats n g u ≡ is)

-- ---- documents of one resource

-- The document can be applied as it is, so that it has one resource. No array in it has more than 2^64 items.
pub record IsAlone (t : Tree) : Type 0 where
  pub sound : IsTree t
  pub short : IsShort t
  pub applied : is_schema t true t ≡ true

-- The document accepts by its dynamic scope exactly the values that it accepts as a root schema.
abbrev pub ExactAlone : Type 0
ExactAlone = (t : Tree) → IsAlone t → (formats : Bool) (u : Tree)
    → IsValidScoped t formats u ↔ IsValidIn (record { tree = t; formats = formats }) u

-- Such a document decides on each value too.
abbrev pub DecidedAlone : Type 0
DecidedAlone = (t : Tree) → IsAlone t → (formats : Bool) (u : Tree)
    → (is : Bool) × (n : ℕ) × ((g : Scoped) → judged t formats n g u ≡ is)

-- ---- schemas in memory

-- Bundled with copies for its scopes, a schema in memory accepts exactly the values that it accepts by its dynamic scope,
-- if the bundled one can be applied.
abbrev pub ExactRead : Type 0
ExactRead = (v : JsonValue) (copies : List Reached) → AreCopies (view v) copies
    → is_schema (bundled copies (view v)) true (bundled copies (view v)) ≡ true → (formats : Bool) (u : Tree)
    → IsValidScoped (view v) formats u ↔ IsValidIn (record { tree = bundled copies (view v); formats = formats }) u

-- It decides on each value.
abbrev pub DecidedRead : Type 0
DecidedRead = (v : JsonValue) (copies : List Reached) → AreCopies (view v) copies
    → is_schema (bundled copies (view v)) true (bundled copies (view v)) ≡ true → (formats : Bool) (u : Tree)
    → (is : Bool) × (n : ℕ) × ((g : Scoped) → judged (view v) formats n g u ≡ is)
