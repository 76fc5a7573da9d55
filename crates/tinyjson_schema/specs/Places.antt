-- Places in a schema, and in a value.
use Rattle.std.specs.Prelude.{◌≡◌, ℕ, List, [], ◌∷◌, ◌++◌, Option, Some, None, cond}
use Rattle.tinyjson.specs.Tree.{Tree}
use Rattle.tinyjson.specs.View.{view}
use Rattle.tinyjson_pointer.specs.Index.{index_of}
use Rattle.tinyjson_pointer.specs.Tokens.{tokens_of}
use Rattle.tinyjson_pointer.specs.Walk.{part_at}
use Rattle.tinyjson_schema_keywords.specs.Names.{name}
use Rattle.tinyjson_schema_keywords.specs.declared.keyword.Keyword.{Keyword}
use Rattle.tinyjson_schema.specs.Parts.{is_by_part, member_schema, item_schema}
use Rattle.tinyjson_schema.specs.declared.part.Part.{Part}
use Rattle.tinyjson_schema.specs.declared.violation.Violation.{Violation}

-- the place in the schema of the subschema that the applicator applies to the part that the token names
abbrev pub place : Keyword → List ℕ → List (List ℕ)
place a k = name a ∷ cond (is_by_part a) (k ∷ []) []

-- The schema for the member at the key, and its place; or there is none.
abbrev pub IsMemberPart : Tree → List ℕ → Option Part → Type 0
IsMemberPart s k None = member_schema s k ≡ None
IsMemberPart s k (Some p) =
    (member_schema s k ≡ Some (view p.to.schema.now)) × (part_at s (place p.applicator k) ≡ Some (view p.to.schema.now))

-- The schema for the item at the index, and its place; any token may name the item.
abbrev pub IsItemPart : Tree → ℕ → Option Part → Type 0
IsItemPart s i None = item_schema s i ≡ None
IsItemPart s i (Some p) = (item_schema s i ≡ Some (view p.to.schema.now))
    × ((k : List ℕ) → index_of k ≡ Some i → part_at s (place p.applicator k) ≡ Some (view p.to.schema.now))

-- The place in the schema and the place in the value have these tokens.
abbrev pub IsAt : List (List ℕ) → List (List ℕ) → Violation → Type 0
IsAt ks js v = (tokens_of v.keyword_location ≡ ks) × (tokens_of v.instance_location ≡ js)

-- The place in the schema has one more token in front.
abbrev pub IsUnder : List ℕ → Violation → Violation → Type 0
IsUnder k old new = IsAt (k ∷ tokens_of old.keyword_location) (tokens_of old.instance_location) new

-- The place in the value has one more token in front.
abbrev pub IsWithin : List ℕ → Violation → Violation → Type 0
IsWithin k old new = IsAt (tokens_of old.keyword_location) (k ∷ tokens_of old.instance_location) new

-- The place in the schema has the keyword in front, and a key or the token of an index.
abbrev pub IsUnderKey : Keyword → List ℕ → Violation → Violation → Type 0
IsUnderKey a k old new = IsAt (name a ∷ k ∷ tokens_of old.keyword_location) (tokens_of old.instance_location) new

pub record IsUnderIndex (a : Keyword) (i : ℕ) (old new : Violation) : Type 0 where
  pub token : List ℕ
  pub named : index_of token ≡ Some i
  pub entered : IsUnderKey a token old new

-- Both places have more in front: the one in the schema the applicator's place for l, the one in the value k.
abbrev pub Enters : Keyword → List ℕ → List ℕ → Violation → Violation → Type 0
Enters a l k old new = IsAt (place a l ++ tokens_of old.keyword_location) (k ∷ tokens_of old.instance_location) new

-- `Enters`, with tokens of the index
pub record EntersItem (a : Keyword) (i : ℕ) (old new : Violation) : Type 0 where
  pub schema_token : List ℕ
  pub token : List ℕ
  pub schema_named : index_of schema_token ≡ Some i
  pub named : index_of token ≡ Some i
  pub entered : Enters a schema_token token old new
