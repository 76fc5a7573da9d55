-- Documents of which all references lead to places in them, or to schemas.
use Rattle.std.specs.Prelude.{ℕ, Bool, true, ◌&&◌, List, [], ◌∷◌, is_some, option_and_then, encode_utf8_all}
use Rattle.std.proofs.Common.{◌≡◌, refl}
use Rattle.std.proofs.lemmas.Bool.{and_from}
use Rattle.tinyjson.specs.Tree.{Tree, array, object, Items, no_items, item, Members, no_members, member}
use Rattle.tinyjson_schema_keywords.specs.Forms.{form_at}
use Rattle.tinyjson_schema_keywords.specs.declared.keyword.Form.{Form}
use Rattle.tinyjson_schema_keywords.specs.declared.keyword.Form.TheVariants as form
use Rattle.tinyjson_schema_bundle.specs.Bundles.{Marked, marks_of, base_in, is_dynamic}
use Rattle.tinyjson_schema_laws.specs.Scoped.{led_to, located_at}

-- Whether the references in a keyword's value lead on. The flags are given: it is a reference that does, or those in a
-- schema, a list of schemas or an object of schemas do.
abbrev pub lead_by : Form → Bool → Bool → Bool → Bool → Bool
lead_by form.Reference leads one list entries = leads
lead_by form.Schema leads one list entries = one
lead_by form.Schemas leads one list entries = list
lead_by form.SchemaMap leads one list entries = entries
lead_by form.PatternMap leads one list entries = entries
lead_by _ leads one list entries = true

-- whether a reference leads on, given the base URI of its schema and whether it is `$dynamicRef`
module _ (leads : List ℕ → Bool → Tree → Bool) where
  abbrev mutual
    -- Each reference in the schema, and in its subschemas, does; b is the base URI around it.
    pub lead_in : List ℕ → Tree → Bool
    lead_in b (object ns) = lead_among (base_in b (object ns)) ns
    lead_in b _ = true

    pub lead_among : List ℕ → Members → Bool
    lead_among b no_members = true
    lead_among b (member k w ns) = lead_by (form_at (encode_utf8_all k)) (leads b (is_dynamic (encode_utf8_all k)) w)
        (lead_in b w) (lead_in_list b w) (lead_in_map b w) && lead_among b ns

    pub lead_in_list : List ℕ → Tree → Bool
    lead_in_list b (array ts) = lead_of_items b ts
    lead_in_list b _ = true

    pub lead_in_map : List ℕ → Tree → Bool
    lead_in_map b (object ns) = lead_of_members b ns
    lead_in_map b _ = true

    pub lead_of_items : List ℕ → Items → Bool
    lead_of_items b no_items = true
    lead_of_items b (item t ts) = lead_in b t && lead_of_items b ts

    pub lead_of_members : List ℕ → Members → Bool
    lead_of_members b no_members = true
    lead_of_members b (member k t ns) = lead_in b t && lead_of_members b ns

-- it leads to a place of the document with the marks
abbrev pub to_place : List Marked → List ℕ → Bool → Tree → Bool
to_place ms b dynamic w = is_some (led_to ms (b ∷ []) dynamic w)

-- it leads to a schema of the document
abbrev pub to_schema : Tree → List ℕ → Bool → Tree → Bool
to_schema t b dynamic w = is_some (option_and_then (located_at t) (led_to (marks_of t) (b ∷ []) dynamic w))

-- Each reference in the document leads to a place in it.
abbrev pub all_lead : Tree → Bool
all_lead t = lead_in (to_place (marks_of t)) [] t

-- Each reference in the document leads to a schema in it.
abbrev pub all_located : Tree → Bool
all_located t = lead_in (to_schema t) [] t

-- ---- any reference is one of any kind

abbrev pub any : List ℕ → Bool → Tree → Bool
any b dynamic w = true

each_form : (f : Form) (one list entries : Bool) → one ≡ true → list ≡ true → entries ≡ true → lead_by f true one list entries ≡ true
each_form form.Schema one list entries x y z = x
each_form form.Schemas one list entries x y z = y
each_form form.SchemaMap one list entries x y z = z
each_form form.PatternMap one list entries x y z = z
each_form _ one list entries x y z = refl

mutual
  pub any_in : (b : List ℕ) (w : Tree) → lead_in any b w ≡ true
  any_in b (object ns) = any_among (base_in b (object ns)) ns
  any_in b _ = refl

  pub any_among : (b : List ℕ) (ms : Members) → lead_among any b ms ≡ true
  any_among b no_members = refl
  any_among b (member k w ms) = and_from _ _ (each_form (form_at (encode_utf8_all k)) (lead_in any b w) (lead_in_list any b w)
      (lead_in_map any b w) (any_in b w) (any_in_list b w) (any_in_map b w)) (any_among b ms)

  any_in_list : (b : List ℕ) (w : Tree) → lead_in_list any b w ≡ true
  any_in_list b (array ts) = any_of_items b ts
  any_in_list b _ = refl

  any_in_map : (b : List ℕ) (w : Tree) → lead_in_map any b w ≡ true
  any_in_map b (object ms) = any_of_members b ms
  any_in_map b _ = refl

  any_of_items : (b : List ℕ) (ts : Items) → lead_of_items any b ts ≡ true
  any_of_items b no_items = refl
  any_of_items b (item t ts) = and_from _ _ (any_in b t) (any_of_items b ts)

  any_of_members : (b : List ℕ) (ms : Members) → lead_of_members any b ms ≡ true
  any_of_members b no_members = refl
  any_of_members b (member k t ms) = and_from _ _ (any_in b t) (any_of_members b ms)
