-- A document with several schema resources, and the same with each reference as a pointer from its root (JSON
-- Schema 2020-12, Core, 8.2.1, 8.2.3.1, 9.1.2, 9.2 and 9.3).
use Rattle.std.specs.BTreeMap as tree
use Rattle.std.specs.BTreeMap.{BTreeMap}
use Rattle.std.specs.Fmt.{decimal}
use Rattle.std.specs.Global.{Global}
use Rattle.std.specs.Prelude.{◌≡◌, ℕ, suc, Bool, true, false, not, ◌&&◌, ◌||◌, ◌==◌, List, [], ◌∷◌, ◌++◌, Option, Some, None, cond}
use Rattle.std.specs.Prelude.{codes, option_map, option_and_then, unwrap_or, encode_utf8_all, map, String, string_bytes}
use Rattle.std.specs.Option.{option_map_or, option_or}
use Rattle.std.specs.Str.{bytes_eq, chars, is_utf8}
use Rattle.tinyjson.specs.Access.{is_string}
use Rattle.tinyjson.specs.Characters.{solidus, tilde}
use Rattle.tinyjson.specs.Tree.{Tree, string, array, object, Items, no_items, item, Members, no_members, member, put}
use Rattle.text_uri.specs.Resolving.{resolved, without_fragment, fragment_of}
use Rattle.tinyjson_pointer.specs.Text.{pointer_tokens}
use Rattle.tinyjson_schema_keywords.specs.Anchors.{is_plain_name}
use Rattle.tinyjson_schema_keywords.specs.Applied.{schema_at}
use Rattle.tinyjson_schema_keywords.specs.Forms.{form_at}
use Rattle.tinyjson_schema_keywords.specs.Names.{name}
use Rattle.tinyjson_schema_keywords.specs.References.{percent, number_sign, percent_decoded}
use Rattle.tinyjson_schema_keywords.specs.Subschemas.{InForm, Way}
use Rattle.tinyjson_schema_keywords.specs.Subschemas.Way.{by_key, by_index}
use Rattle.tinyjson_schema_keywords.specs.declared.keyword.Form.{Form}
use Rattle.tinyjson_schema_keywords.specs.declared.keyword.Form.TheVariants as form
use Rattle.tinyjson_schema_keywords.specs.declared.keyword.Keyword.TheVariants as kw
use Rattle.tinyjson_schema_bundle.specs.declared.mark.Kind.{Kind}
use Rattle.tinyjson_schema_bundle.specs.declared.mark.Kind.TheVariants as kind
use Rattle.tinyjson_schema_bundle.specs.declared.mark.Mark.{Mark}

-- ---- places: pointers from the root in UTF-8, in the form that a fragment needs

-- a character of a token (RFC 6901, sections 3 and 6)
abbrev pub token_char : ℕ → List ℕ
token_char c = cond (c == percent) (codes "%25") (cond (c == tilde) (codes "~0") (cond (c == solidus) (codes "~1")
    (encode_utf8_all (c ∷ []))))

abbrev pub token_text : List ℕ → List ℕ
token_text [] = []
token_text (c ∷ cs) = token_char c ++ token_text cs

-- the place of the value at the key, or at the index, of the value at p
abbrev pub at_key : List ℕ → List ℕ → List ℕ
at_key p k = p ++ solidus ∷ token_text k

abbrev pub at_index : List ℕ → ℕ → List ℕ
at_index p i = p ++ solidus ∷ decimal i

-- ---- the marks of a document: resources, names and references, each with its place

abbrev pub is_empty : List ℕ → Bool
is_empty [] = true
is_empty (b ∷ bs) = false

-- a kind, a URI or reference, and a place
abbrev pub Marked : Type 0
Marked = Kind × List ℕ × List ℕ

-- the URI of a name in the resource u
abbrev pub with_name : List ℕ → List ℕ → List ℕ
with_name u bs = u ++ number_sign ∷ bs

-- the base URI in a schema, given the one around it and its `$id`
abbrev pub base_by : List ℕ → Option Tree → List ℕ
base_by b (Some (string cs)) = without_fragment (resolved b (encode_utf8_all cs))
base_by b _ = b

abbrev pub base_in : List ℕ → Tree → List ℕ
base_in b s = base_by b (schema_at s kw.Id)

-- The root is a resource, and so is each schema with an `$id`. Its URI is the base URI in it.
abbrev pub is_resource : List ℕ → Tree → Bool
is_resource p s = is_empty p || option_map_or is_string (schema_at s kw.Id) false

abbrev pub resource_marks : List ℕ → List ℕ → Tree → List Marked
resource_marks b p s = cond (is_resource p s) ((kind.Resource, b, p) ∷ []) []

-- the kind of a name by this keyword
abbrev pub name_kind : List ℕ → Kind
name_kind key = cond (bytes_eq key (name kw.DynamicAnchor)) kind.DynamicName kind.Name

abbrev pub name_marks : Kind → List ℕ → List ℕ → Tree → List Marked
name_marks k b p (string cs) = (k, with_name b (encode_utf8_all cs), p) ∷ []
name_marks k b p _ = []

-- a reference that is only a fragment
abbrev pub is_fragment : List ℕ → Bool
is_fragment [] = false
is_fragment (b ∷ bs) = b == number_sign

abbrev pub reference_kind : List ℕ → Kind
reference_kind bs = cond (is_fragment bs) kind.Inside kind.Outside

abbrev pub reference_marks : List ℕ → Tree → List Marked
reference_marks p (string cs) = (reference_kind (encode_utf8_all cs), encode_utf8_all cs, p) ∷ []
reference_marks p _ = []

-- the marks of a keyword's value: its own, or those of the schemas in it
abbrev pub marks_by : Form → List Marked → List Marked → List Marked → List Marked → List Marked → List Marked
marks_by form.Anchor names outside one list entries = names
marks_by form.Reference names outside one list entries = outside
marks_by form.Schema names outside one list entries = one
marks_by form.Schemas names outside one list entries = list
marks_by form.SchemaMap names outside one list entries = entries
marks_by form.PatternMap names outside one list entries = entries
marks_by _ names outside one list entries = []

abbrev mutual
  -- the marks of a schema at p and of its subschemas, with members in the order of their keys; b is the base URI
  -- around it
  pub marks_in : List ℕ → List ℕ → Tree → List Marked
  marks_in b p (object ms) = resource_marks (base_in b (object ms)) p (object ms) ++ marks_among (base_in b (object ms)) p ms
  marks_in b p _ = []

  pub marks_among : List ℕ → List ℕ → Members → List Marked
  marks_among b p no_members = []
  marks_among b p (member k w ms) = marks_by (form_at (encode_utf8_all k)) (name_marks (name_kind (encode_utf8_all k)) b p w)
      (reference_marks p w) (marks_in b (at_key p k) w) (marks_in_list b (at_key p k) w) (marks_in_map b (at_key p k) w)
      ++ marks_among b p ms

  pub marks_in_list : List ℕ → List ℕ → Tree → List Marked
  marks_in_list b p (array ts) = marks_of_items b p 0 ts
  marks_in_list b p _ = []

  pub marks_in_map : List ℕ → List ℕ → Tree → List Marked
  marks_in_map b p (object ms) = marks_of_members b p ms
  marks_in_map b p _ = []

  pub marks_of_items : List ℕ → List ℕ → ℕ → Items → List Marked
  marks_of_items b p i no_items = []
  marks_of_items b p i (item t ts) = marks_in b (at_index p i) t ++ marks_of_items b p (suc i) ts

  pub marks_of_members : List ℕ → List ℕ → Members → List Marked
  marks_of_members b p no_members = []
  marks_of_members b p (member k t ms) = marks_in b (at_key p k) t ++ marks_of_members b p ms

-- the base URI around a document is empty
abbrev pub marks_of : Tree → List Marked
marks_of t = marks_in [] [] t

-- A document has to be bundled if a subschema is a resource, or a reference is more than a fragment.
abbrev pub is_bundled_by : Kind → List ℕ → Bool
is_bundled_by kind.Resource p = not (is_empty p)
is_bundled_by kind.Name p = false
is_bundled_by kind.DynamicName p = false
is_bundled_by kind.Inside p = false
is_bundled_by kind.Outside p = true

abbrev pub is_bundle : List Marked → Bool
is_bundle [] = false
is_bundle (m ∷ ms) = is_bundled_by m.0 m.2 || is_bundle ms

abbrev pub is_place : Kind → Bool
is_place kind.Inside = false
is_place kind.Outside = false
is_place _ = true

-- the place of the first resource or name with the URI
abbrev pub place_of : List Marked → List ℕ → Option (List ℕ)
place_of [] u = None
place_of (m ∷ ms) u = cond (is_place m.0 && bytes_eq m.1 u) (Some m.2) (place_of ms u)

-- ---- where dynamic references to names lead

abbrev pub is_dynamic_name : Kind → Bool
is_dynamic_name kind.DynamicName = true
is_dynamic_name _ = false

-- the mark has the URI, by `$dynamicAnchor`
abbrev pub is_dynamic_at : Marked → List ℕ → Bool
is_dynamic_at m u = is_dynamic_name m.0 && bytes_eq m.1 u

-- the place of the first schema that has the URI by `$dynamicAnchor`
abbrev pub dynamic_place : List Marked → List ℕ → Option (List ℕ)
dynamic_place [] u = None
dynamic_place (m ∷ ms) u = cond (is_dynamic_at m u) (Some m.2) (dynamic_place ms u)

-- the mark has the name n by `$dynamicAnchor`, in any resource
abbrev pub is_named : Marked → List ℕ → Bool
is_named m n = is_dynamic_name m.0 && bytes_eq (unwrap_or (fragment_of m.1) []) n

-- the mark has the name n so, at another place than p
abbrev pub is_other : Marked → List ℕ → List ℕ → Bool
is_other m n p = is_named m n && not (bytes_eq m.2 p)

-- Each schema that has the name n by `$dynamicAnchor` is at p.
abbrev pub is_only : List Marked → List ℕ → List ℕ → Bool
is_only [] n p = true
is_only (m ∷ ms) n p = not (is_other m n p) && is_only ms n p

-- The final place of a dynamic reference that first leads to a schema at p with the name n by `$dynamicAnchor`:
-- that of the outermost schema with this name in the dynamic scope (8.2.3.2). Each scope begins in the root
-- resource r, so it is the one there. If r has none, the place is known only if no other schema has the name.
abbrev pub outermost : List Marked → List ℕ → List ℕ → List ℕ → Option (List ℕ)
outermost ms r n p = option_or (dynamic_place ms (with_name r n)) (cond (is_only ms n p) (Some p) None)

-- the place of a URI
abbrev pub Places : Type 0
Places = List ℕ → Option (List ℕ)

-- ---- where references lead

-- The place of a URI. The place to which a dynamic reference leads from a schema with the base URI b, given its
-- resource and its name. The place, in the document or in a copy, at which a place is found from such a schema.
abbrev pub Leads : Type 0
Leads = Places × (List ℕ → List ℕ → List ℕ → Option (List ℕ)) × (List ℕ → List ℕ → List ℕ)

abbrev pub begins_pointer : List ℕ → Bool
begins_pointer [] = true
begins_pointer (b ∷ bs) = b == solidus

-- the place to which the tokens lead from p
abbrev pub place_after : List ℕ → List (List ℕ) → List ℕ
place_after p [] = p
place_after p (k ∷ ks) = place_after (at_key p k) ks

abbrev pub place_below : List ℕ → List ℕ → Option (List ℕ)
place_below p ds = option_map (place_after p) (pointer_tokens (chars ds))

-- From a schema with the base URI b: in the resource u, the decoded fragment ds is a pointer or a name.
abbrev pub leads_in : Leads → Bool → List ℕ → List ℕ → List ℕ → Option (List ℕ)
leads_in to dynamic b u ds = cond (begins_pointer ds) (option_and_then (λ p. place_below p ds) (to.0 u))
    (cond dynamic (to.1 b u ds) (to.0 (with_name u ds)))

abbrev pub leads_by : Leads → Bool → List ℕ → List ℕ → List ℕ → Option (List ℕ)
leads_by to dynamic b u ds = cond (is_utf8 ds) (leads_in to dynamic b u ds) None

-- the place to which the URI t leads
abbrev pub first_place : Leads → Bool → List ℕ → List ℕ → Option (List ℕ)
first_place to dynamic b t = option_and_then (leads_by to dynamic b (without_fragment t)) (percent_decoded (unwrap_or (fragment_of t) []))

abbrev pub destination : Leads → Bool → List ℕ → List ℕ → Option (List ℕ)
destination to dynamic b t = option_map (to.2 b) (first_place to dynamic b t)

-- ---- the document with pointers

-- the string of bytes in UTF-8
abbrev pub string_of : List ℕ → Tree
string_of bs = string (chars bs)

-- a reference as a pointer; one that leads nowhere is left as it is
abbrev pub pointing : Leads → Bool → List ℕ → Tree → Tree
pointing to dynamic b (string cs) =
    option_map_or (λ p. string_of (number_sign ∷ p)) (destination to dynamic b (resolved b (encode_utf8_all cs))) (string cs)
pointing to dynamic b w = w

-- the place is p
abbrev pub is_here : Option (List ℕ) → List ℕ → Bool
is_here o p = option_map_or (λ q. bytes_eq q p) o false

-- The `$id` of a subschema is left out, unless it has a fragment or an earlier resource has it.
abbrev pub is_own_id : Places → List ℕ → List ℕ → List ℕ → Bool
is_own_id at b p bs = not (is_empty p) && (is_empty (unwrap_or (fragment_of bs) []) && is_here (at b) p)

abbrev pub kept_id : Places → List ℕ → List ℕ → Tree → Option Tree
kept_id at b p (string cs) = cond (is_own_id at b p (encode_utf8_all cs)) None (Some (string cs))
kept_id at b p w = Some w

-- A name is left out. One that is not plain, or that its resource has before, becomes a text that is no plain name.
abbrev pub is_own_anchor : Places → List ℕ → List ℕ → List ℕ → Bool
is_own_anchor at b p bs = is_plain_name bs && is_here (at (with_name b bs)) p

abbrev pub kept_anchor : Places → List ℕ → List ℕ → Tree → Option Tree
kept_anchor at b p (string cs) = cond (is_own_anchor at b p (encode_utf8_all cs)) None (Some (string_of (with_name b (encode_utf8_all cs))))
kept_anchor at b p w = Some w

-- what remains of a keyword's value w, or replaces it
abbrev pub kept_by : Form → Tree → Option Tree → Option Tree → Tree → Tree → Tree → Tree → Option Tree
kept_by form.Base w id anchor reference one list entries = id
kept_by form.Anchor w id anchor reference one list entries = anchor
kept_by form.Reference w id anchor reference one list entries = Some reference
kept_by form.Schema w id anchor reference one list entries = Some one
kept_by form.Schemas w id anchor reference one list entries = Some list
kept_by form.SchemaMap w id anchor reference one list entries = Some entries
kept_by form.PatternMap w id anchor reference one list entries = Some entries
kept_by _ w id anchor reference one list entries = Some w

abbrev pub put_some : List ℕ → Option Tree → Members → Members
put_some k None ms = ms
put_some k (Some w) ms = put k w ms

abbrev pub is_dynamic : List ℕ → Bool
is_dynamic key = bytes_eq key (name kw.DynamicRef)

abbrev mutual
  -- the bundled schema at p; b is the base URI around it
  pub pointed : Leads → List ℕ → List ℕ → Tree → Tree
  pointed to b p (object ms) = object (pointed_among to (base_in b (object ms)) p ms)
  pointed to b p t = t

  pub pointed_among : Leads → List ℕ → List ℕ → Members → Members
  pointed_among to b p no_members = no_members
  pointed_among to b p (member k w ms) = put_some k (kept_by (form_at (encode_utf8_all k)) w (kept_id to.0 b p w) (kept_anchor to.0 b p w)
      (pointing to (is_dynamic (encode_utf8_all k)) b w) (pointed to b (at_key p k) w) (pointed_list to b (at_key p k) w)
      (pointed_map to b (at_key p k) w)) (pointed_among to b p ms)

  pub pointed_list : Leads → List ℕ → List ℕ → Tree → Tree
  pointed_list to b p (array ts) = array (pointed_items to b p 0 ts)
  pointed_list to b p t = t

  pub pointed_map : Leads → List ℕ → List ℕ → Tree → Tree
  pointed_map to b p (object ms) = object (pointed_members to b p ms)
  pointed_map to b p t = t

  pub pointed_items : Leads → List ℕ → List ℕ → ℕ → Items → Items
  pointed_items to b p i no_items = no_items
  pointed_items to b p i (item t ts) = item (pointed to b (at_index p i) t) (pointed_items to b p (suc i) ts)

  pub pointed_members : Leads → List ℕ → List ℕ → Members → Members
  pointed_members to b p no_members = no_members
  pointed_members to b p (member k t ms) = put k (pointed to b (at_key p k) t) (pointed_members to b p ms)

-- ---- for private contracts

abbrev pub at_way : List ℕ → Way → List ℕ
at_way p (by_key k) = at_key p k
at_way p (by_index i) = at_index p i

-- the marks of a schema at p, or of the schemas in a value of another form there
abbrev pub marks_within : Form → List ℕ → List ℕ → Tree → List Marked
marks_within f b p w = marks_by f [] [] (marks_in b p w) (marks_in_list b p w) (marks_in_map b p w)

-- the mark that a keyword gives its schema at p
abbrev pub own_marks : List ℕ → List ℕ → InForm → List Marked
own_marks b p (by_key k, keyword, f, w) = marks_by f (name_marks (name_kind (encode_utf8_all k)) b p w) (reference_marks p w) [] [] []
own_marks b p x = []

-- the marks of the parts of a value at p
abbrev pub marks_of_parts : List ℕ → List ℕ → List InForm → List Marked
marks_of_parts b p [] = []
marks_of_parts b p (x ∷ xs) = own_marks b p x ++ (marks_within x.2 b (at_way p x.0) x.3 ++ marks_of_parts b p xs)

abbrev pub kept_of : Leads → List ℕ → List ℕ → List ℕ → List ℕ → Tree → Option Tree
kept_of to key b p q w = kept_by (form_at key) w (kept_id to.0 b p w) (kept_anchor to.0 b p w) (pointing to (is_dynamic key) b w)
    (pointed to b q w) (pointed_list to b q w) (pointed_map to b q w)

abbrev pub marked : Mark → Marked
marked m = (m.kind, string_bytes m.uri, string_bytes m.place)

abbrev pub all_marked : List Mark → List Marked
all_marked marks = map marked marks

-- These are appended to the list.
abbrev pub Gathers : List Marked → List Mark → List Mark → Type 0
Gathers ms old new = all_marked new ≡ all_marked old ++ ms

abbrev pub places_in : BTreeMap (String Global) (String Global) → Places
places_in m u = option_map string_bytes (tree.get_by_text m u)

-- The map has the places of these marks.
abbrev pub HasPlaces : List Marked → BTreeMap (String Global) (String Global) → Type 0
HasPlaces ms m = (u : List ℕ) → places_in m u ≡ place_of ms u
