-- Schemas of a document, each in a dynamic scope, and schemas of a document of one resource that do the same.
use Rattle.std.proofs.Common.{◌≡◌, Bool, true, false, Option, Some, None}
use Rattle.std.specs.Option.{option_map_or}
use Rattle.std.specs.Prelude.{⊤}
use Rattle.tinyjson.specs.Tree.{Tree, Items, no_items, item, Members, no_members, member}
use Rattle.tinyjson_schema_keywords.specs.Applied.{schema_at, items_in, members_in}
use Rattle.tinyjson_schema_keywords.specs.Forms.{form_of}
use Rattle.tinyjson_schema_keywords.specs.References.{referenced}
use Rattle.tinyjson_schema_keywords.specs.declared.keyword.Form.{Form}
use Rattle.tinyjson_schema_keywords.specs.declared.keyword.Form.TheVariants as form
use Rattle.tinyjson_schema_keywords.specs.declared.keyword.Keyword.{Keyword}
use Rattle.tinyjson_schema_keywords.specs.declared.keyword.Keyword.TheVariants as kw
use Rattle.tinyjson_schema.specs.Nested.{is_reference}
use Rattle.tinyjson_schema.specs.Schemas.{is_schema}
use Rattle.tinyjson_schema.specs.Valid.{refuses_all}
use Rattle.tinyjson_schema_laws.specs.Scoped.{Scope, entered, target_in}

-- ---- values of keywords, with subschemas that are related

abbrev pub listed : Option Tree → Items
listed o = option_map_or items_in o no_items

abbrev pub mapped : Option Tree → Members
mapped o = option_map_or members_in o no_members

module _ (R : Tree → Tree → Type 0) where
  abbrev pub OptRel : Option Tree → Option Tree → Type 0
  OptRel None None = ⊤
  OptRel (Some q) (Some v) = R q v
  OptRel _ _ = ⊥

  abbrev pub AllRel : Items → Items → Type 0
  AllRel no_items no_items = ⊤
  AllRel (item q qs) (item v vs) = R q v × AllRel qs vs
  AllRel _ _ = ⊥

  abbrev pub MapRel : Members → Members → Type 0
  MapRel no_members no_members = ⊤
  MapRel (member k q qs) (member l v vs) = (k ≡ l) × R q v × MapRel qs vs
  MapRel _ _ = ⊥

  -- two values of a keyword with the form
  abbrev pub ValueRel : Form → Option Tree → Option Tree → Type 0
  ValueRel form.Base o p = ⊤
  ValueRel form.Anchor o p = ⊤
  ValueRel form.Reference o p = ⊤
  ValueRel form.Schema o p = OptRel o p
  ValueRel form.Schemas o p = AllRel (listed o) (listed p)
  ValueRel form.SchemaMap o p = MapRel (mapped o) (mapped p)
  ValueRel form.PatternMap o p = MapRel (mapped o) (mapped p)
  ValueRel _ o p = o ≡ p

-- the target of a reference, and that of the one in the document with its scope
abbrev pub LedRel : (Scope → Tree → Tree → Type 0) → Option Tree → Option (Scope × Tree) → Type 0
LedRel B None None = ⊤
LedRel B (Some r) (Some d) = B d.0 d.1 r
LedRel B _ _ = ⊥

-- `$defs` holds schemas, but no rule applies them
abbrev pub is_applied : Keyword → Bool
is_applied kw.Defs = false
is_applied _ = true

-- B relates a schema s of the document t, in a dynamic scope c, to a schema r of the document `whole`. They have the
-- same keywords, with subschemas that are related, and lead to schemas that are.
pub record Simulates (t whole : Tree) (B : Scope → Tree → Tree → Type 0) : Type 0 where
  pub refuses : (c : Scope) (s r : Tree) → B c s r → refuses_all s ≡ refuses_all r
  pub parts : (c : Scope) (s r : Tree) → B c s r → (k : Keyword) → is_applied k ≡ true
      → ValueRel (λ q v. B (entered c q) q v) (form_of k) (schema_at s k) (schema_at r k)
  pub led : (c : Scope) (s r : Tree) → B c s r → (k : Keyword) → is_reference k ≡ true
      → LedRel B (referenced whole k r) (target_in t c k s)
  pub fit : (c : Scope) (s r : Tree) → B c s r → (x : Bool) × (is_schema whole x r ≡ true)
