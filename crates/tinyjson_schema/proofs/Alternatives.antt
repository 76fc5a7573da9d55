-- The subschemas that are known.
use Rattle.std.proofs.Common.{◌≡◌, ℕ, ◌<◌, Bool, true, false, cond, List, Option, Some, None, length, get_or, slice_get, option_map}
use Rattle.std.proofs.Common.{sym, ap, ◌∙◌}
use Rattle.std.specs.Option.{option_map_or}
use Rattle.std.specs.Prelude.{option_and_then}
use Rattle.tinyjson.proofs.Callers.{nth_items_view}
use Rattle.tinyjson.specs.Index.{nth, tree_at, tree_at_key}
use Rattle.tinyjson.specs.Tree.{Tree, array, object, no_items, no_members, find}
use Rattle.tinyjson.specs.View.{view, items_view}
use Rattle.tinyjson.specs.declared.value.JsonValue.{JsonValue}
use Rattle.tinyjson_schema_keywords.specs.Applied.{schema_at, schemas_at, schema_map_at, items_in, members_in}
use Rattle.tinyjson_schema_keywords.specs.declared.keyword.Keyword.{Keyword}
use Rattle.tinyjson_schema_keywords.specs.declared.keyword.Keyword.TheVariants as kw
use Rattle.tinyjson_schema.specs.Parts.{prefix_item, additional, is_patterned}
use Rattle.tinyjson_schema_table.proofs.Callers.{got_at, same_known}
use Rattle.tinyjson_schema_table.specs.Links.{keyed}
use Rattle.tinyjson_schema_table.specs.Places.{LeadsTo, is_of}
use Rattle.tinyjson_schema_table.specs.declared.table.Known.{Known}

-- what is known of the schema at an index is that schema
pub alternative_known : (s : Tree) (k : Keyword) (vs : List JsonValue) (i : ℕ) (v : JsonValue) (n : Option Known)
    → items_view vs ≡ schemas_at s k → i < length vs → v ≡ get_or vs i v → LeadsTo (nth (schemas_at s k) i) n
    → is_of n (view v) ≡ true
alternative_known s k vs i v n e l at h =
    let there : slice_get vs i ≡ Some v = got_at vs i v l ∙ ap (λ x. Some x) (sym at) in
    same_known _ n (view v) h (ap (λ ts. nth ts i) (sym e) ∙ (nth_items_view vs i ∙ ap (option_map view) there))

-- ---- the schema at a key

apart : {A : Type 0} {x : A} {R : Type 0} → None ≡ Some x → R
apart h = cc

at_key_there : (t : Tree) (l : List ℕ) (r : Tree) → find l (members_in t) ≡ Some r → tree_at_key t l ≡ Some r
at_key_there (object ms) l r h = h
at_key_there _ l r h = apart h

keyed_there : (o : Option Tree) (l : List ℕ) (r : Tree) → find l (option_map_or members_in o no_members) ≡ Some r
    → option_and_then (λ p. tree_at_key p l) o ≡ Some r
keyed_there None l r h = apart h
keyed_there (Some t) l r h = at_key_there t l r h

pub key_there : (s : Tree) (k : Keyword) (l : List ℕ) (r : Tree) → find l (schema_map_at s k) ≡ Some r → keyed s k l ≡ Some r
key_there s k l r e = keyed_there (schema_at s k) l r e

pub key_known : (s : Tree) (k : Keyword) (l : List ℕ) (r : Tree) (n : Option Known) → find l (schema_map_at s k) ≡ Some r
    → LeadsTo (keyed s k l) n → is_of n r ≡ true
key_known s k l r n e h = same_known (keyed s k l) n r h (key_there s k l r e)

-- ---- the schema of `prefixItems` at an index

at_index_there : (t : Tree) (i : ℕ) (r : Tree) → tree_at t i ≡ Some r → nth (items_in t) i ≡ Some r
at_index_there (array ts) i r h = h
at_index_there _ i r h = apart h

listed_there : (o : Option Tree) (i : ℕ) (r : Tree) → option_and_then (λ p. tree_at p i) o ≡ Some r
    → nth (option_map_or items_in o no_items) i ≡ Some r
listed_there None i r h = apart h
listed_there (Some t) i r h = at_index_there t i r h

pub prefix_known : (s : Tree) (i : ℕ) (r : Tree) (n : Option Known) → prefix_item s i ≡ Some r
    → LeadsTo (nth (schemas_at s kw.PrefixItems) i) n → is_of n r ≡ true
prefix_known s i r n e h = same_known (nth (schemas_at s kw.PrefixItems) i) n r h (listed_there (schema_at s kw.PrefixItems) i r e)

-- ---- that of `additionalProperties`

left_there : (o : Option Tree) (b : Bool) (r : Tree) → cond b None o ≡ Some r → o ≡ Some r
left_there o true r h = apart h
left_there o false r h = h

pub additional_known : (s : Tree) (l : List ℕ) (r : Tree) (n : Option Known) → additional s l ≡ Some r
    → LeadsTo (schema_at s kw.AdditionalProperties) n → is_of n r ≡ true
additional_known s l r n e h = same_known (schema_at s kw.AdditionalProperties) n r h
    (left_there (schema_at s kw.AdditionalProperties) (is_patterned s l) r e)
