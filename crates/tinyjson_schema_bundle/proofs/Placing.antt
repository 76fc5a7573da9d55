-- Where URIs lead in a document: the map of places, and what is looked up in it.
use Rattle.std.proofs.Common.{◌≡◌, ◌∷◌, [], ℕ, suc, ◌<◌, ◌≤◌, ◌-◌, Bool, true, false, ◌&&◌, cond, List, Option, Some, None}
use Rattle.std.proofs.Common.{String, Global, length, get_or, bytes_eq, drop, option_map, string_bytes, refl, sym, ap, ◌∙◌, subst, arith}
use Rattle.std.proofs.lemmas.Map.Text.{btree_map_updates_text}
use Rattle.std.proofs.lemmas.Str.{is_utf8-from_IsUtf8, IsUtf8-from_is_utf8}
use Rattle.std.specs.BTreeMap as tree
use Rattle.std.specs.BTreeMap.{BTreeMap}
use Rattle.std.specs.Option.{option_map_or}
use Rattle.std.specs.Prelude.{unwrap_or, option_and_then}
use Rattle.std.specs.Str.{IsUtf8, chars, is_utf8}
use Rattle.std.specs.String.{string_cmp}
use Rattle.tinyjson.proofs.Callers.{view_String}
use Rattle.tinyjson.specs.Tree.{Tree, string}
use Rattle.tinyjson.specs.View.{view}
use Rattle.tinyjson.specs.declared.value.JsonValue.{JsonValue}
use Rattle.tinyjson.specs.declared.value.JsonValue.TheVariants as made
use Rattle.text_uri.specs.Resolving.{resolved, without_fragment, fragment_of}
use Rattle.tinyjson_schema_keywords.specs.References.{number_sign, percent_decoded, at_pointer}
use Rattle.tinyjson_schema_keywords.proofs.Callers.{text_bytes, drop_suc}
use Rattle.tinyjson_schema_bundle.specs.Bundles.{Places, Leads, begins_pointer, place_below, leads_in, leads_by, first_place, destination}
use Rattle.tinyjson_schema_bundle.specs.Bundles.{with_name, string_of, pointing, is_own_id, kept_id, is_own_anchor, kept_anchor}
use Rattle.tinyjson_schema_bundle.specs.Scopes.{schema_there}
use Rattle.tinyjson_schema_bundle.specs.Bundles.{Marked, is_place, place_of, places_in, HasPlaces, marked, all_marked}
use Rattle.tinyjson_schema_bundle.specs.declared.mark.Mark.{Mark}

abbrev pub Map : Type 0
Map = BTreeMap (String Global) (String Global)

some_cond : (b : Bool) (s : String Global) (o : Option (String Global))
    → option_map string_bytes (cond b (Some s) o) ≡ cond b (Some (string_bytes s)) (option_map string_bytes o)
some_cond true s o = refl
some_cond false s o = refl

pub place_put : (m : Marked) (ms : List Marked) (key value : String Global) (s new : Map) → is_place m.0 ≡ true → string_bytes key ≡ m.1
    → string_bytes value ≡ m.2 → tree.Updates string_cmp s new key (Some value) → HasPlaces ms s → HasPlaces (m ∷ ms) new
place_put m ms key value s new is e f up h u =
    ap (option_map string_bytes) (btree_map_updates_text (string_bytes key) s new (Some value) up u)
    ∙ (some_cond (bytes_eq (string_bytes key) u) value (tree.get_by_text s u)
    ∙ (ap (λ bs. cond (bytes_eq bs u) (Some (string_bytes value)) (places_in s u)) e
    ∙ (ap (λ bs. cond (bytes_eq m.1 u) (Some bs) (places_in s u)) f
    ∙ (ap (cond (bytes_eq m.1 u) (Some m.2)) (h u)
    ∙ ap (λ b. cond (b && bytes_eq m.1 u) (Some m.2) (place_of ms u)) (sym is)))))

pub no_place : (m : Marked) (ms : List Marked) (s : Map) → is_place m.0 ≡ false → HasPlaces ms s → HasPlaces (m ∷ ms) s
no_place m ms s is h u = h u ∙ ap (λ b. cond (b && bytes_eq m.1 u) (Some m.2) (place_of ms u)) (sym is)

-- one step back, to the mark before those that are left
module _ (xs : List Mark) (n : ℕ) (a : Mark) (more : 0 < n) (among : n ≤ length xs) (is : a ≡ get_or xs (n - 1) a)
    (s : Map) (h : HasPlaces (all_marked (drop n xs)) s)
  where
    front : all_marked (drop (n - 1) xs) ≡ marked a ∷ all_marked (drop n xs)
    front =
        let here : n - 1 < length xs = omega (arith, more, among) in
        let next : suc (n - 1) ≡ n = omega (arith, more) in
        ap all_marked (drop_suc xs (n - 1) a here is) ∙ ap (λ m. marked a ∷ all_marked (drop m xs)) next

    pub put_back : (key value : String Global) (new : Map) → is_place a.kind ≡ true → string_bytes key ≡ string_bytes a.uri
        → string_bytes value ≡ string_bytes a.place → tree.Updates string_cmp s new key (Some value)
        → HasPlaces (all_marked (drop (n - 1) xs)) new
    put_back key value new p e f up = subst (λ ms. HasPlaces ms new) (sym front)
        (place_put (marked a) (all_marked (drop n xs)) key value s new p e f up h)

    pub passed_back : is_place a.kind ≡ false → HasPlaces (all_marked (drop (n - 1) xs)) s
    passed_back p = subst (λ ms. HasPlaces ms s) (sym front) (no_place (marked a) (all_marked (drop n xs)) s p h)

-- ---- where a URI leads, by its fragment f

module _ (to : Leads) (dynamic : Bool) (b t f : List ℕ) (same : f ≡ unwrap_or (fragment_of t) []) where
  abbrev found : List ℕ → Option (List ℕ)
  found ds = leads_by to dynamic b (without_fragment t) ds

  pub no_bytes : None ≡ percent_decoded f → None ≡ first_place to dynamic b t
  no_bytes h = ap (option_and_then found) (h ∙ ap percent_decoded same)

  module _ (ds : List ℕ) (is : Some ds ≡ percent_decoded f) where
    decoded : found ds ≡ first_place to dynamic b t
    decoded = ap (option_and_then found) (is ∙ ap percent_decoded same)

    pub no_text : ¬ IsUtf8 ds → None ≡ first_place to dynamic b t
    no_text n = by (is_utf8 ds) refl ∙ decoded
      where
        by : (x : Bool) → is_utf8 ds ≡ x → None ≡ cond x (leads_in to dynamic b (without_fragment t) ds) None
        by true e = absurd (n (IsUtf8-from_is_utf8 ds e))
        by false e = refl

    leads : IsUtf8 ds → leads_in to dynamic b (without_fragment t) ds ≡ first_place to dynamic b t
    leads u = ap (λ x. cond x (leads_in to dynamic b (without_fragment t) ds) None) (sym (is_utf8-from_IsUtf8 ds u)) ∙ decoded

    abbrev one_of : Bool → Option (List ℕ)
    one_of x = cond x (option_and_then (λ p. place_below p ds) (to.0 (without_fragment t)))
        (cond dynamic (to.1 b (without_fragment t) ds) (to.0 (with_name (without_fragment t) ds)))

    pub pointer_leads : IsUtf8 ds → begins_pointer ds ≡ true
        → option_and_then (λ p. place_below p ds) (to.0 (without_fragment t)) ≡ first_place to dynamic b t
    pointer_leads u h = ap one_of (sym h) ∙ leads u

    pub name_leads : IsUtf8 ds → begins_pointer ds ≡ false
        → cond dynamic (to.1 b (without_fragment t) ds) (to.0 (with_name (without_fragment t) ds)) ≡ first_place to dynamic b t
    name_leads u h = ap one_of (sym h) ∙ leads u

-- ---- the schema at a place

module _ (t : Tree) (p ds : List ℕ) (is : Some ds ≡ percent_decoded p) where
  abbrev there : List ℕ → Option Tree
  there bs = cond (is_utf8 bs) (at_pointer t (chars bs)) None

  pub schema_found : IsUtf8 ds → at_pointer t (chars ds) ≡ schema_there t p
  schema_found u = ap (λ b. cond b (at_pointer t (chars ds)) None) (sym (is_utf8-from_IsUtf8 ds u)) ∙ ap (option_and_then there) is

  pub schema_missing : ¬ IsUtf8 ds → None ≡ schema_there t p
  schema_missing n = by (is_utf8 ds) refl ∙ ap (option_and_then there) is
    where
      by : (x : Bool) → is_utf8 ds ≡ x → None ≡ cond x (at_pointer t (chars ds)) None
      by true e = absurd (n (IsUtf8-from_is_utf8 ds e))
      by false e = refl

-- ---- a text, as it stays

module _ (v : JsonValue) (s : String Global) (bs : List ℕ) (e : v ≡ made.String s) (h : bs ≡ string_bytes s) where
  pub reference_pointed : (to : Leads) (dynamic : Bool) (b : List ℕ) (o : Option (List ℕ)) → o ≡ destination to dynamic b (resolved b bs)
      → option_map_or (λ p. string_of (number_sign ∷ p)) o (view v) ≡ pointing to dynamic b (view v)
  reference_pointed to dynamic b o g =
      ap (λ w. option_map_or (λ p. string_of (number_sign ∷ p)) o w) (ap view e ∙ view_String s)
      ∙ (ap (λ x. option_map_or (λ p. string_of (number_sign ∷ p)) x (string (chars (string_bytes s))))
      (g ∙ ap (λ xs. destination to dynamic b (resolved b xs)) (text_bytes s bs h))
      ∙ ap (pointing to dynamic b) (sym (ap view e ∙ view_String s)))

  pub id_said : (at : Places) (b p : List ℕ) → cond (is_own_id at b p bs) None (Some (view v)) ≡ kept_id at b p (view v)
  id_said at b p = ap (λ t. cond (is_own_id at b p bs) None (Some t)) (ap view e ∙ view_String s)
      ∙ (ap (λ xs. cond (is_own_id at b p xs) None (Some (string (chars (string_bytes s))))) (text_bytes s bs h)
      ∙ ap (kept_id at b p) (sym (ap view e ∙ view_String s)))

  pub anchor_said : (at : Places) (b p : List ℕ)
      → cond (is_own_anchor at b p bs) None (Some (string_of (with_name b bs))) ≡ kept_anchor at b p (view v)
  anchor_said at b p = ap (λ xs. cond (is_own_anchor at b p xs) None (Some (string_of (with_name b xs)))) (text_bytes s bs h)
      ∙ ap (kept_anchor at b p) (sym (ap view e ∙ view_String s))
