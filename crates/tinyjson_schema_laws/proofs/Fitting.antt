-- A schema that can be applied has no `$id` in its subschemas. So tokens lead to schemas with the base URI of the root.
use Rattle.std.proofs.Common.{◌≡◌, ℕ, zero, suc, Bool, true, false, List, [], ◌∷◌, Option, Some, None}
use Rattle.std.proofs.Common.{cond, refl, sym, ap, ◌∙◌, true≢false, bytes_eq, subst, encode_utf8_all}
use Rattle.std.proofs.lemmas.Bool.{and_parts}
use Rattle.std.proofs.lemmas.Option.{same_Some}
use Rattle.std.proofs.lemmas.Slice.Eq.{bytes_eq-Decides}
use Rattle.std.specs.Prelude.{option_and_then}
use Rattle.tinyjson.specs.Index.{nth}
use Rattle.tinyjson.specs.Tree.{Tree, boolean, array, object, Items, no_items, item, Members, no_members, member, find}
use Rattle.tinyjson_pointer.specs.Index.{index_of}
use Rattle.tinyjson_pointer.specs.Walk.{part_at, item_of}
use Rattle.tinyjson_schema_keywords.specs.Applied.{schema_at}
use Rattle.tinyjson_schema_keywords.specs.Forms.{form_at, is_some_item}
use Rattle.tinyjson_schema_keywords.specs.Names.{name}
use Rattle.tinyjson_schema_keywords.specs.References.{form_after, is_schema_form}
use Rattle.tinyjson_schema_keywords.specs.declared.keyword.Form.{Form}
use Rattle.tinyjson_schema_keywords.specs.declared.keyword.Form.TheVariants as form
use Rattle.tinyjson_schema_keywords.specs.declared.keyword.Keyword.TheVariants as kw
use Rattle.tinyjson_schema_bundle.specs.Bundles.{base_by, base_in}
use Rattle.tinyjson_schema.specs.Schemas.{fits, is_schema, keywords_fit, are_schemas, have_schemas}
use Rattle.tinyjson_schema_laws.specs.Scoped.{located}
use Rattle.tinyjson_schema_laws.proofs.Pointed.{form_named}

module _ (t : Tree) where
  pub fit_found : (k : List ℕ) (ms : Members) (v : Tree) (x : Bool) → keywords_fit t x ms ≡ true → find k ms ≡ Some v
      → fits t x (form_at (encode_utf8_all k)) v ≡ true
  fit_found k no_members v x h e = absurd (let none : None ≡ Some v = e in cc)
  fit_found k (member l u ms) v x h e =
      by (fit_found k ms v x (and_parts (fits t x (form_at (encode_utf8_all l)) u) (keywords_fit t x ms) h).1) (bytes_eq k l) refl e
    where
      by : (find k ms ≡ Some v → fits t x (form_at (encode_utf8_all k)) v ≡ true) → (b : Bool) → bytes_eq k l ≡ b
          → cond b (Some u) (find k ms) ≡ Some v → fits t x (form_at (encode_utf8_all k)) v ≡ true
      by later true g e = subst (λ w. fits t x (form_at (encode_utf8_all k)) w ≡ true) (same_Some u v e)
          (subst (λ j. fits t x (form_at (encode_utf8_all j)) u ≡ true) (sym ((bytes_eq-Decides k l).0 g))
          (and_parts (fits t x (form_at (encode_utf8_all l)) u) (keywords_fit t x ms) h).0)
      by later false g e = later e

  item_found : (ts : Items) (i : ℕ) (v : Tree) → are_schemas t ts ≡ true → nth ts i ≡ Some v → is_schema t false v ≡ true
  item_found no_items i v h e = absurd (let none : None ≡ Some v = e in cc)
  item_found (item u ts) zero v h e = subst (λ w. is_schema t false w ≡ true) (same_Some u v e)
      (and_parts (is_schema t false u) (are_schemas t ts) h).0
  item_found (item u ts) (suc i) v h e = item_found ts i v (and_parts (is_schema t false u) (are_schemas t ts) h).1 e

  entry_found : (k : List ℕ) (ms : Members) (v : Tree) → have_schemas t ms ≡ true → find k ms ≡ Some v → is_schema t false v ≡ true
  entry_found k no_members v h e = absurd (let none : None ≡ Some v = e in cc)
  entry_found k (member l u ms) v h e =
      by (entry_found k ms v (and_parts (is_schema t false u) (have_schemas t ms) h).1) (bytes_eq k l) e
    where
      by : (find k ms ≡ Some v → is_schema t false v ≡ true) → (b : Bool) → cond b (Some u) (find k ms) ≡ Some v
          → is_schema t false v ≡ true
      by later true e = subst (λ w. is_schema t false w ≡ true) (same_Some u v e) (and_parts (is_schema t false u) (have_schemas t ms) h).0
      by later false e = later e

  -- ---- a subschema has no `$id`

  pub no_id : (w : Tree) → is_schema t false w ≡ true → schema_at w kw.Id ≡ None
  no_id (boolean x) h = refl
  no_id (object ms) h = by (find (name kw.Id) ms) refl
    where
      by : (o : Option Tree) → find (name kw.Id) ms ≡ o → o ≡ None
      by None e = refl
      by (Some v) e = absurd (true≢false (sym (ap (λ f. fits t false f v) (sym (form_named kw.Id))
          ∙ fit_found (name kw.Id) ms v false h e)))
  no_id _ h = absurd (true≢false (sym h))

  pub same_base : (b : List ℕ) (w : Tree) → is_schema t false w ≡ true → base_in b w ≡ b
  same_base b w h = ap (base_by b) (no_id w h)

  -- ---- tokens

  no_form : (ks : List (List ℕ)) → is_schema_form (form_after form.Anything ks) ≡ false
  no_form [] = refl
  no_form (k ∷ ks) = no_form ks

  -- the schema r is there, with the base URI b, and can be applied
  abbrev pub IsThere : List ℕ → Tree → Option (List ℕ × Tree) → Type 0
  IsThere b r o = (o ≡ Some (b, r)) × (is_schema t false r ≡ true)

  abbrev Leading : List (List ℕ) → Form → Type 0
  Leading ks f = (x : Bool) (b : List ℕ) (w r : Tree) → fits t x f w ≡ true → is_schema_form (form_after f ks) ≡ true
      → part_at w ks ≡ Some r → IsThere b r (located f b w ks)

  next : (ks : List (List ℕ)) (f : Form) → Leading ks f → (x : Bool) (b : List ℕ) (o : Option Tree) (r : Tree)
      → ((v : Tree) → o ≡ Some v → fits t x f v ≡ true) → is_schema_form (form_after f ks) ≡ true
      → option_and_then (λ u. part_at u ks) o ≡ Some r → IsThere b r (option_and_then (λ v. located f b v ks) o)
  next ks f ih x b None r h g e = absurd (let none : None ≡ Some r = e in cc)
  next ks f ih x b (Some v) r h g e = ih x b v r (h v refl) g e

  in_list : (ks : List (List ℕ)) → Leading ks form.Schema → (b : List ℕ) (ts : Items) (o : Option ℕ) (r : Tree) → are_schemas t ts ≡ true
      → is_schema_form (form_after form.Schema ks) ≡ true → option_and_then (λ u. part_at u ks) (item_of ts o) ≡ Some r
      → IsThere b r (option_and_then (λ v. located form.Schema b v ks) (item_of ts o))
  in_list ks ih b ts None r h g e = absurd (let none : None ≡ Some r = e in cc)
  in_list ks ih b ts (Some i) r h g e = next ks form.Schema ih false b (nth ts i) r (λ v. item_found ts i v h) g e

  walk : (ks : List (List ℕ)) (f : Form) → Leading ks f
  walk [] form.Schema x b w r h g e =
      let same : w ≡ r = same_Some w r e in
      ((λ i. Some (same_base b w h i, same i)), subst (λ x. is_schema t false x ≡ true) same h)
  walk [] _ x b w r h g e = absurd (true≢false (sym g))
  walk (k ∷ ks) form.Schema x b (object ms) r h g e =
      subst (λ d. IsThere b r (option_and_then (λ v. located (form_at (encode_utf8_all k)) d v ks) (find k ms)))
      (sym (same_base b (object ms) h))
      (next ks (form_at (encode_utf8_all k)) (walk ks (form_at (encode_utf8_all k))) false b (find k ms) r
      (λ v. fit_found k ms v false h) g e)
  walk (k ∷ ks) form.Schema x b (boolean y) r h g e = absurd (let none : None ≡ Some r = e in cc)
  walk (k ∷ ks) form.Schema x b _ r h g e = absurd (true≢false (sym h))
  walk (k ∷ ks) form.Schemas x b (array ts) r h g e = in_list ks (walk ks form.Schema) b ts (index_of k) r
      (and_parts (is_some_item ts) (are_schemas t ts) h).1 g e
  walk (k ∷ ks) form.Schemas x b _ r h g e = absurd (true≢false (sym h))
  walk (k ∷ ks) form.SchemaMap x b (object ms) r h g e =
      next ks form.Schema (walk ks form.Schema) false b (find k ms) r (λ v. entry_found k ms v h) g e
  walk (k ∷ ks) form.SchemaMap x b _ r h g e = absurd (true≢false (sym h))
  walk (k ∷ ks) form.PatternMap x b (object ms) r h g e =
      next ks form.Schema (walk ks form.Schema) false b (find k ms) r (λ v. entry_found k ms v (and_parts _ (have_schemas t ms) h).1) g e
  walk (k ∷ ks) form.PatternMap x b _ r h g e = absurd (true≢false (sym h))
  walk (k ∷ ks) _ x b w r h g e = absurd (true≢false (sym g ∙ no_form ks))

  -- the schema to which tokens lead from the root
  pub led_there : (ms : Members) → keywords_fit t true ms ≡ true → (ks : List (List ℕ)) (r : Tree)
      → is_schema_form (form_after form.Schema ks) ≡ true → part_at (object ms) ks ≡ Some r
      → (located form.Schema [] (object ms) ks ≡ Some (base_in [] (object ms), r)) × (x : Bool) × (is_schema t x r ≡ true)
  led_there ms h [] r g e =
      let same : object ms ≡ r = same_Some (object ms) r e in
      ((λ i. Some (base_in [] (object ms), same i)), true, subst (λ x. is_schema t true x ≡ true) same h)
  led_there ms h (k ∷ ks) r g e =
      let found = next ks (form_at (encode_utf8_all k)) (walk ks (form_at (encode_utf8_all k))) true (base_in [] (object ms)) (find k ms) r
      (λ v. fit_found k ms v true h) g e in
      (found.0, false, found.1)
