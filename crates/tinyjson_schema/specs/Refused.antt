-- Places in a schema that can't be applied.
use Rattle.std.specs.Prelude.{◌≡◌, ℕ, Bool, true, false, ◌||◌, List, [], ◌∷◌, Option, Some, None, Result, Ok, Err}
use Rattle.std.specs.declared.alloc.AllocError.{AllocError}
use Rattle.text_iregexp.specs.PatternDeciding.{is_pattern}
use Rattle.tinyjson.specs.Access.{is_boolean, is_object}
use Rattle.tinyjson.specs.Tree.{Tree, string}
use Rattle.tinyjson.specs.View.{view}
use Rattle.tinyjson_pointer.specs.Index.{HasIndexBefore}
use Rattle.tinyjson_pointer.specs.Tokens.{tokens_of}
use Rattle.tinyjson_pointer.specs.Walk.{step}
use Rattle.tinyjson_schema_keywords.specs.Anchors.{is_own_name}
use Rattle.tinyjson_schema_keywords.specs.Applied.{items_in}
use Rattle.tinyjson_schema_keywords.specs.Forms.{is_some_item}
use Rattle.tinyjson_schema_keywords.specs.Patterns.{IsAboveLimits}
use Rattle.tinyjson_schema_keywords.specs.References.{form_in}
use Rattle.tinyjson_schema_keywords.specs.Subschemas.{Way, by_key, by_index}
use Rattle.tinyjson_schema_keywords.specs.declared.document.Document.{Document}
use Rattle.tinyjson_schema_keywords.specs.declared.keyword.Form.{Form}
use Rattle.tinyjson_schema_keywords.specs.declared.keyword.Form.TheVariants as form
use Rattle.tinyjson_schema.specs.Circles.{leads}
use Rattle.tinyjson_schema_assertions.specs.Operands.{has_patterns}
use Rattle.tinyjson_schema.specs.Schemas.{has_form, fits, is_schema, is_schema_list, is_schema_map}
use Rattle.tinyjson_schema.specs.declared.refused.Reason.{Reason}
use Rattle.tinyjson_schema.specs.declared.refused.Reason.TheVariants.{Misfit, PatternLimit}
use Rattle.tinyjson_schema.specs.declared.refused.RefusedPlace.{RefusedPlace}

-- The value w of a keyword, or a schema, has the form that it needs, whatever its subschemas are.
abbrev pub has_own_form : Tree → Bool → Form → Tree → Bool
has_own_form root whole form.Schema w = is_boolean w || is_object w
has_own_form root whole form.Schemas w = is_some_item (items_in w)
has_own_form root whole form.SchemaMap w = is_object w
has_own_form root whole form.PatternMap w = is_object w
has_own_form root whole f w = fits root whole f w

-- only the form of `$id` depends on whether the schema is the root
abbrev pub whole_for : Bool → Form → Bool
whole_for whole form.Base = whole
whole_for whole _ = false

-- The tokens lead in w, which needs the form f, to what can't be applied by itself: it has not its form, or is a
-- key that is no pattern. They go through keywords with subschemas.
pub data IsRefusedAt : Tree → Bool → Form → Tree → List (List ℕ) → Type 0 where
  itself : {root w : Tree} {whole : Bool} {f : Form} → has_own_form root whole f w ≡ false → IsRefusedAt root whole f w []
  no_pattern : {root w v : Tree} {whole : Bool} {k : List ℕ} → step w k ≡ Some v → is_pattern k ≡ false
      → IsRefusedAt root whole form.PatternMap w (k ∷ [])
  inside : {root w v : Tree} {whole : Bool} {f : Form} {k : List ℕ} {ks : List (List ℕ)} → step w k ≡ Some v
      → IsRefusedAt root (whole_for whole (form_in f k)) (form_in f k) v ks → IsRefusedAt root whole f w (k ∷ ks)

-- The tokens lead in w, which needs the form f, to a pattern that is too deep or too large, or to a key that is
-- one. They go through keywords with subschemas.
pub data IsAboveAt : Form → Tree → List (List ℕ) → Type 0 where
  value : {cs : List ℕ} → IsAboveLimits cs → IsAboveAt form.Pattern (string cs) []
  key : {w v : Tree} {k : List ℕ} → step w k ≡ Some v → IsAboveLimits k → IsAboveAt form.PatternMap w (k ∷ [])
  within : {w v : Tree} {f : Form} {k : List ℕ} {ks : List (List ℕ)} → step w k ≡ Some v → IsAboveAt (form_in f k) v ks
      → IsAboveAt f w (k ∷ ks)

-- ---- for private contracts

-- The value has its own form, and the keys in it are patterns where they have to be.
abbrev pub has_shape : Tree → Bool → Form → Tree → Bool
has_shape root whole form.PatternMap w = has_patterns w
has_shape root whole f w = has_own_form root whole f w

-- The value has the form that it needs, and so have its parts; or it is a schema, the root schema or another one.
abbrev pub is_applied : Tree → Bool → Form → Tree → Bool
is_applied root whole f w =
    has_form f w (is_schema root whole w) (is_schema_list root w) (is_schema_map root w) (leads root w) (is_own_name root w) whole

-- The tokens are the old ones, after the token of this way.
abbrev pub IsBefore : Way → List (List ℕ) → List (List ℕ) → Type 0
IsBefore (by_key k) old new = new ≡ k ∷ old
IsBefore (by_index i) old new = HasIndexBefore i old new

-- What was asked of w is false, and something in it can't be applied; or a pattern in it is too deep or too large.
abbrev pub IsReason : Bool → Tree → Bool → Form → Tree → Reason → List (List ℕ) → Type 0
IsReason is root whole f w Misfit ks = (is ≡ false) × IsRefusedAt root whole f w ks
IsReason is root whole f w PatternLimit ks = IsAboveAt f w ks

-- No place, and what was asked is true; or a place, with its reason.
abbrev pub Refuses : Bool → Tree → Bool → Form → Tree → Result (Option RefusedPlace) AllocError → Type 0
Refuses is root whole f w (Ok None) = is ≡ true
Refuses is root whole f w (Ok (Some p)) = IsReason is root whole f w p.reason (tokens_of p.pointer)
Refuses is root whole f w (Err e) = Unit {0}

-- the place of the value itself, with the reason
abbrev pub IsWhole : Reason → RefusedPlace → Type 0
IsWhole x p = (p.reason ≡ x) × (tokens_of p.pointer ≡ [])

-- No place, and what was asked is true; or the place of the value itself.
abbrev pub RefusesWhole : Bool → Result (Option RefusedPlace) AllocError → Type 0
RefusesWhole is (Ok None) = is ≡ true
RefusesWhole is (Ok (Some p)) = (is ≡ false) × IsWhole Misfit p
RefusesWhole is (Err e) = Unit {0}

-- why a text can't be applied as a pattern, or nothing if it can
abbrev pub IsTextReason : List ℕ → Option Reason → Type 0
IsTextReason cs None = is_pattern cs ≡ true
IsTextReason cs (Some Misfit) = is_pattern cs ≡ false
IsTextReason cs (Some PatternLimit) = IsAboveLimits cs

-- the root schema of a document
abbrev pub whole_of : Document → Tree
whole_of d = view d.whole.now.root.now
