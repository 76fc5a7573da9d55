-- In a bundled document that can be applied, each reference leads to a place: so do the references of the document.
use Rattle.std.proofs.Common.{◌≡◌, ℕ, suc, Bool, true, false, ◌&&◌, ◌||◌, ◌==◌, List, [], ◌∷◌, ◌++◌, Option, Some, None}
use Rattle.std.proofs.Common.{inl, inr}
use Rattle.std.proofs.Common.{cond, is_some, refl, sym, ap, ◌∙◌, true≢false, subst, option_map, encode_utf8_all, eqb-true, bytes_eq}
use Rattle.std.proofs.lemmas.Bool.{and_parts, and_from}
use Rattle.std.proofs.lemmas.Slice.Eq.{bytes_eq-Decides}
use Rattle.std.proofs.lemmas.Str.{IsUtf8-from_is_utf8, encodes-chars}
use Rattle.std.specs.Option.{option_map_or}
use Rattle.std.specs.Prelude.{⊤, option_and_then, unwrap_or}
use Rattle.std.specs.Str.{IsUtf8, is_utf8, chars}
use lib.Utf8.{encode}
use Rattle.tinyjson.specs.Access.{is_string}
use Rattle.tinyjson.specs.Tree.{Tree, string, array, object, Items, no_items, item, Members, no_members, member, find}
use Rattle.tinyjson_number.specs.Numeral.{power_width}
use Rattle.tinyjson_grammar.specs.Soundness.{IsTree, IsSorted, AreItemsAt, AreMembersAt}
use Rattle.tinyjson_pointer.specs.Text.{pointer_text, pointer_tokens}
use Rattle.tinyjson_pointer.specs.Text as pointer
use Rattle.text_uri.specs.Resolving.{resolved, without_fragment, fragment_of}
use Rattle.tinyjson_schema_keywords.specs.Anchors.{anchors_in, anchored, is_plain_name}
use Rattle.tinyjson_schema_keywords.specs.Applied.{schema_at, members_in}
use Rattle.tinyjson_schema_keywords.specs.Forms.{form_at, is_some_item}
use Rattle.tinyjson_schema_keywords.specs.References.{percent_decoded, schema_from, at_pointer, at_text, at_fragment, target}
use Rattle.tinyjson_schema_keywords.specs.References.{reference_bytes}
use Rattle.tinyjson_schema_keywords.specs.declared.keyword.Form.{Form}
use Rattle.tinyjson_schema_keywords.specs.declared.keyword.Form.TheVariants as form
use Rattle.tinyjson_schema_keywords.specs.declared.keyword.Keyword.TheVariants as kw
use Rattle.tinyjson_schema_bundle.specs.Bundles.{Marked, Leads, place_of, dynamic_place, with_name, base_by, base_in, is_dynamic, is_place}
use Rattle.tinyjson_schema_bundle.specs.Bundles.{begins_pointer, place_after, place_below, leads_by, first_place, destination, pointing}
use Rattle.tinyjson_schema_bundle.specs.Bundles.{string_of}
use Rattle.tinyjson_schema_bundle.specs.Bundles as bundle
use Rattle.tinyjson_schema_bundle.specs.Bundles.{resource_marks, name_kind, name_marks, reference_marks, marks_by, marks_of}
use Rattle.tinyjson_schema_bundle.specs.Bundles.{marks_in, marks_among, marks_in_list, marks_in_map, marks_of_items, marks_of_members}
use Rattle.tinyjson_schema_bundle.specs.Bundles.{pointed, pointed_among, pointed_list, pointed_map, pointed_items, pointed_members}
use Rattle.tinyjson_schema_bundle.specs.Bundles.{at_key, at_index}
use Rattle.tinyjson_schema_bundle.specs.declared.mark.Kind.TheVariants as kind
use Rattle.tinyjson_schema_bundle.specs.Scopes.{Reached, from_root, leads_of, leads_over}
use Rattle.tinyjson_schema.specs.Circles.{leads}
use Rattle.tinyjson_schema.specs.Schemas.{is_schema, keywords_fit, are_schemas}
use Rattle.tinyjson_schema_laws.proofs.Leading.{to_place, lead_by, lead_in, lead_among, lead_in_list, lead_in_map, lead_of_items}
use Rattle.tinyjson_schema_laws.proofs.Leading.{lead_of_members, all_lead}
use Rattle.tinyjson_schema_laws.specs.Scoped.{outermost, leads_in, led_to}
use Rattle.tinyjson_schema_laws.proofs.Contested.{cut_name}
use Rattle.tinyjson_schema_laws.proofs.Dynamic.{cut_base}
use Rattle.tinyjson_schema_laws.proofs.Fragments.{fragment_resolved}
use Rattle.tinyjson_schema_laws.proofs.Kept.{cut_twice}
use Rattle.tinyjson_schema_laws.proofs.Led.{target_some}
use Rattle.tinyjson_schema_laws.proofs.Pointed.{is_kept, picked, changed, found_pointed}
use Rattle.tinyjson_schema_laws.proofs.Referring.{some_cond, some_then}
use Rattle.tinyjson_schema_laws.proofs.Standing.{IsAmong}
use Rattle.tinyjson_schema_laws.proofs.Unnamed.{unnamed}
use Rattle.tinyjson_schema_laws.proofs.Walk.{Fit, fit_member, fit_entry, find_pointed, first_found, rest_found}

no_some : {A B : Type 0} (v : A) → None ≡ Some v → B
no_some v e = absurd (let none : None ≡ Some v = e in cc)

-- ---- pointers begin as such

pub text_begins : (ks : List (List ℕ)) → begins_pointer (encode_utf8_all (pointer_text ks)) ≡ true
unfolding encode
text_begins [] = refl
text_begins (k ∷ ks) = refl

no_tokens : (ds : List ℕ) → IsUtf8 ds → begins_pointer ds ≡ false → pointer_tokens (chars ds) ≡ None
no_tokens ds u h = by (bytes_eq (pointer_text (pointer.split false (chars ds)).1) (chars ds)) refl
  where
    by : (x : Bool) → bytes_eq (pointer_text (pointer.split false (chars ds)).1) (chars ds) ≡ x
        → cond x (Some (pointer.split false (chars ds)).1) None ≡ None
    by true e = absurd (true≢false (sym (text_begins (pointer.split false (chars ds)).1)
        ∙ (ap (λ xs. begins_pointer (encode_utf8_all xs)) ((bytes_eq-Decides (pointer_text (pointer.split false (chars ds)).1)
        (chars ds)).0 e) ∙ (ap begins_pointer (encodes-chars ds u) ∙ h))))
    by false e = refl

-- ---- texts that lead nowhere

module _ (all : List Marked) (root : Tree)
    (no_names : (ds : List ℕ) → is_plain_name ds ≡ true → anchored (anchors_in root) ds ≡ None)
    (b p : List ℕ) (cut : without_fragment b ≡ b) (based : place_of all b ≡ Some p) (dynamic : Bool) where
  abbrev Nowhere : List ℕ → Type 0
  Nowhere ds = bundle.leads_in (leads_in all (b ∷ [])) dynamic b b ds ≡ None

  none_below : (o : Option (List (List ℕ))) → option_map (place_after p) o ≡ None → option_and_then (schema_from root) o ≡ None
  none_below None e = refl
  none_below (Some ks) e = no_some (place_after p ks) (sym e)

  no_pointer : (ds : List ℕ) → IsUtf8 ds → Nowhere ds → at_pointer root (chars ds) ≡ None
  no_pointer ds u n = by (begins_pointer ds) refl n
    where
      by : (x : Bool) → begins_pointer ds ≡ x → cond x (option_and_then (λ q. place_below q ds) (place_of all b))
          (cond dynamic ((leads_in all (b ∷ [])).1 b b ds) (place_of all (with_name b ds))) ≡ None
          → option_and_then (schema_from root) (pointer_tokens (chars ds)) ≡ None
      by true e m = none_below (pointer_tokens (chars ds)) (sym (ap (option_and_then (λ q. place_below q ds)) based) ∙ m)
      by false e m = ap (option_and_then (schema_from root)) (no_tokens ds u e)

  no_text : (ds : List ℕ) → IsUtf8 ds → Nowhere ds → at_text root ds ≡ None
  no_text ds u n = by (is_plain_name ds) refl
    where
      by : (x : Bool) → is_plain_name ds ≡ x → cond x (anchored (anchors_in root) ds) (at_pointer root (chars ds)) ≡ None
      by true e = no_names ds e
      by false e = no_pointer ds u n

  none_at : (ds : List ℕ) → leads_by (leads_in all (b ∷ [])) dynamic b b ds ≡ None → at_fragment root ds ≡ None
  none_at ds n = by (is_utf8 ds) refl n
    where
      by : (x : Bool) → is_utf8 ds ≡ x → cond x (bundle.leads_in (leads_in all (b ∷ [])) dynamic b b ds) None ≡ None
          → cond x (at_text root ds) None ≡ None
      by true e m = no_text ds (IsUtf8-from_is_utf8 ds e) m
      by false e m = refl

  none_decoded : (o : Option (List ℕ)) → option_and_then (leads_by (leads_in all (b ∷ [])) dynamic b b) o ≡ None
      → option_and_then (at_fragment root) o ≡ None
  none_decoded None n = refl
  none_decoded (Some ds) n = none_at ds n

  cut_named : (f : List ℕ) → without_fragment (with_name b f) ≡ b
  cut_named f = subst (λ u. without_fragment (with_name u f) ≡ u) cut (cut_name b f)

  of_named : (f : List ℕ) → fragment_of (with_name b f) ≡ Some f
  of_named f = subst (λ u. fragment_of (with_name u f) ≡ Some f) cut (cut_base b f)

  none_named : (f : List ℕ) → first_place (leads_in all (b ∷ [])) dynamic b (with_name b f) ≡ None
      → option_and_then (at_fragment root) (percent_decoded f) ≡ None
  none_named f n = none_decoded (percent_decoded f) (sym (λ i. option_and_then (leads_by (leads_in all (b ∷ [])) dynamic b (cut_named f i))
      (percent_decoded (unwrap_or (of_named f i) []))) ∙ n)

  none_bytes : (bs : List ℕ) → first_place (leads_in all (b ∷ [])) dynamic b (resolved b bs) ≡ None
      → option_and_then (at_fragment root) (reference_bytes bs) ≡ None
  none_bytes [] n = refl
  none_bytes (c ∷ f) n = by (c == 35) refl
    where
      by : (x : Bool) → (c == 35) ≡ x → option_and_then (at_fragment root) (cond x (percent_decoded f) None) ≡ None
      by true e = none_named f (sym (ap (first_place (leads_in all (b ∷ [])) dynamic b)
          (ap (λ y. resolved b (y ∷ f)) (eqb-true c 35 e) ∙ fragment_resolved b f cut)) ∙ n)
      by false e = refl

  leads_nowhere : (cs : List ℕ) → led_to all (b ∷ []) dynamic (string cs) ≡ None → target root (string cs) ≡ None
  leads_nowhere cs n = none_bytes (encode_utf8_all cs) n

-- ---- references of the document

none_of : (o : Option (List ℕ)) → is_some o ≡ false → o ≡ None
none_of None e = refl
none_of (Some p) e = absurd (true≢false e)

-- ---- marks of parts

the_place : (o : Option (List ℕ)) → is_some o ≡ true → (p : List ℕ) × (o ≡ Some p)
the_place None e = absurd (true≢false (sym e))
the_place (Some p) e = (p, refl)

or_true : (x y : Bool) → y ≡ true → (x || y) ≡ true
or_true true y e = refl
or_true false y e = e

in_first : (m : Marked) (xs ys : List Marked) → IsAmong m xs → IsAmong m (xs ++ ys)
in_first m [] ys a = absurd a
in_first m (n ∷ xs) ys (inl e) = inl e
in_first m (n ∷ xs) ys (inr a) = inr (in_first m xs ys a)

in_second : (m : Marked) (xs ys : List Marked) → IsAmong m ys → IsAmong m (xs ++ ys)
in_second m [] ys a = a
in_second m (n ∷ xs) ys a = inr (in_second m xs ys a)

placed_among : (ms : List Marked) (m : Marked) → IsAmong m ms → is_place m.0 ≡ true → is_some (place_of ms m.1) ≡ true
placed_among [] m a p = absurd a
placed_among (n ∷ ms) m (inl e) p = ap (λ b. is_some (cond b (Some n.2) (place_of ms m.1)))
    (and_from _ _ (ap (λ x. is_place x.0) (sym e) ∙ p) ((bytes_eq-Decides n.1 m.1).1 (ap (λ x. x.1) (sym e))))
placed_among (n ∷ ms) m (inr a) p = by (placed_among ms m a p) (is_place n.0 && bytes_eq n.1 m.1)
  where
    by : is_some (place_of ms m.1) ≡ true → (b : Bool) → is_some (cond b (Some n.2) (place_of ms m.1)) ≡ true
    by later true = refl
    by later false = later

module _ (all : List Marked) where
  -- these are marks of the document
  abbrev pub AreAmong : List Marked → Type 0
  AreAmong ms = (m : Marked) → IsAmong m ms → IsAmong m all

  under_first : (xs ys : List Marked) → AreAmong (xs ++ ys) → AreAmong xs
  under_first xs ys h m a = h m (in_first m xs ys a)

  under_second : (xs ys : List Marked) → AreAmong (xs ++ ys) → AreAmong ys
  under_second xs ys h m a = h m (in_second m xs ys a)

  -- the base URI is that of a resource
  pub record IsSet (b : List ℕ) : Type 0 where
    pub cut : without_fragment b ≡ b
    pub placed : is_some (place_of all b) ≡ true

module _ (all : List Marked) (r z : List ℕ) (some : Bool) (copies : List Reached) (s : Reached) (root : Tree)
    (no_names : (ds : List ℕ) → is_plain_name ds ≡ true → anchored (anchors_in root) ds ≡ None) where
  abbrev guide : Leads
  guide = leads_of (place_of all) all r z some copies s

  some_dynamic : (b u n : List ℕ) → is_some (guide.1 b u n) ≡ is_some ((leads_in all (b ∷ [])).1 b u n)
  some_dynamic b u n = by (dynamic_place all (with_name u n))
    where
      by : (o : Option (List ℕ)) → is_some (option_map_or (λ q. Some (leads_over all r s (unwrap_or (place_of all b) []) n q)) o
          (place_of all (with_name u n)))
          ≡ is_some (option_map_or (λ p. Some (unwrap_or (outermost all (b ∷ []) n) p)) o (place_of all (with_name u n)))
      by None = refl
      by (Some q) = refl

  some_first : (dynamic : Bool) (b t : List ℕ)
      → is_some (first_place guide dynamic b t) ≡ is_some (first_place (leads_in all (b ∷ [])) dynamic b t)
  some_first dynamic b t = some_then (leads_by guide dynamic b (without_fragment t)) (leads_by (leads_in all (b ∷ [])) dynamic b
      (without_fragment t))
      (percent_decoded (unwrap_or (fragment_of t) []))
      (λ ds. some_cond (is_utf8 ds) _ None _ None (some_cond (begins_pointer ds) (option_and_then (λ p. place_below p ds)
      (place_of all (without_fragment t))) _
      (option_and_then (λ p. place_below p ds) (place_of all (without_fragment t))) _ refl
      (some_cond dynamic _ (place_of all (with_name (without_fragment t) ds)) _ (place_of all (with_name (without_fragment t) ds))
      (some_dynamic b (without_fragment t) ds) refl)) refl)

  abbrev on : List ℕ → Bool → Tree → Bool
  on = to_place all

  pub leads_on : (b : List ℕ) (dynamic : Bool) (w : Tree) → IsSet all b → leads root (pointing guide dynamic b w) ≡ true
      → on b dynamic w ≡ true
  leads_on b dynamic (string cs) set h = by (led_to all (b ∷ []) dynamic (string cs)) refl
    where
      by : (o : Option (List ℕ)) → led_to all (b ∷ []) dynamic (string cs) ≡ o → is_some o ≡ true
      by (Some q) e = refl
      by None e =
          let p = the_place (place_of all b) set.placed in
          let none : destination guide dynamic b (resolved b (encode_utf8_all cs)) ≡ None
          = ap (option_map (guide.2 b)) (none_of (first_place guide dynamic b (resolved b (encode_utf8_all cs)))
          (some_first dynamic b (resolved b (encode_utf8_all cs)) ∙ ap is_some e)) in
          let stays : pointing guide dynamic b (string cs) ≡ string cs
          = ap (λ o. option_map_or (λ p. string_of (35 ∷ p)) o (string cs)) none in
          let there = target_some root (string cs) (ap (leads root) (sym stays) ∙ h) in
          no_some there.0 (sym (leads_nowhere all root no_names b p.0 set.cut p.1 dynamic cs e) ∙ there.1)
  leads_on b dynamic _ set h = absurd (true≢false (sym h))

-- ---- the walk

-- Each reference is on if it leads in the root schema, bundled.
module _ (all : List Marked) (root : Tree) (to : Leads) (on : List ℕ → Bool → Tree → Bool)
    (is_on : (b p : List ℕ) (dynamic : Bool) (w : Tree) → IsSet all b → AreAmong all (reference_marks p w)
    → leads root (pointing to dynamic b w) ≡ true → on b dynamic w ≡ true) where
  -- ---- bases of parts

  based : (b p : List ℕ) (ns : Members) → IsSet all b → AreAmong all (resource_marks (base_in b (object ns)) p (object ns))
      → IsSet all (base_in b (object ns))
  based b p ns h d = by (schema_at (object ns) kw.Id) refl
    where
      own : option_map_or is_string (schema_at (object ns) kw.Id) false ≡ true
          → is_some (place_of all (base_in b (object ns))) ≡ true
      own e = placed_among all (kind.Resource, base_in b (object ns), p)
          (subst (λ x. AreAmong all (cond x ((kind.Resource, base_in b (object ns), p) ∷ []) []))
          (or_true (bundle.is_empty p) (option_map_or is_string (schema_at (object ns) kw.Id) false) e) d
          (kind.Resource, base_in b (object ns), p) (inl refl)) refl

      by : (o : Option Tree) → schema_at (object ns) kw.Id ≡ o → IsSet all (base_by b (schema_at (object ns) kw.Id))
      by (Some (string cs)) e = subst (λ o. IsSet all (base_by b o)) (sym e) (record {
        cut = cut_twice (resolved b (encode_utf8_all cs));
        placed = sym (ap (λ o. is_some (place_of all (base_by b o))) e) ∙ own (ap (λ o. option_map_or is_string o false) e);
      })
      by None e = subst (λ o. IsSet all (base_by b o)) (sym e) h
      by (Some _) e = subst (λ o. IsSet all (base_by b o)) (sym e) h

  -- ---- the walk

  -- what is in a value of the form fits, bundled
  abbrev pub Fits : Form → List ℕ → List ℕ → Bool → Tree → Type 0
  Fits form.Reference b q dynamic w = leads root (pointing to dynamic b w) ≡ true
  Fits form.Schema b q dynamic w = Fit root form.Schema (pointed to b q w)
  Fits form.Schemas b q dynamic w = Fit root form.Schemas (pointed_list to b q w)
  Fits form.SchemaMap b q dynamic w = (l : List ℕ) (v : Tree) → find l (members_in w) ≡ Some v
      → Fit root form.Schema (pointed to b (at_key q l) v)
  Fits form.PatternMap b q dynamic w = (l : List ℕ) (v : Tree) → find l (members_in w) ≡ Some v
      → Fit root form.Schema (pointed to b (at_key q l) v)
  Fits _ b q dynamic w = ⊤

  map_fits : (b q : List ℕ) (w : Tree) → Fit root form.SchemaMap (pointed_map to b q w) → (l : List ℕ) (v : Tree)
      → find l (members_in w) ≡ Some v → Fit root form.Schema (pointed to b (at_key q l) v)
  map_fits b q (object es) h l v e = fit_entry root l (pointed_members to b q es) (pointed to b (at_key q l) v) h
      (find_pointed root on to b q l es ∙ ap (option_map (pointed to b (at_key q l))) e)
  map_fits b q _ h l v e = no_some v e

  from_fit : (f : Form) (b q : List ℕ) (dynamic : Bool) (w : Tree) → (is_kept f ≡ true → Fit root f
      (picked f w (pointing to dynamic b w) (pointed to b q w) (pointed_list to b q w) (pointed_map to b q w))) → Fits f b q dynamic w
  from_fit form.Reference b q dynamic w h = h refl
  from_fit form.Schema b q dynamic w h = h refl
  from_fit form.Schemas b q dynamic w h = h refl
  from_fit form.SchemaMap b q dynamic w h = map_fits b q w (h refl)
  from_fit form.PatternMap b q dynamic w h = map_fits b q w (h refl)
  from_fit _ b q dynamic w h = tt

  abbrev pub HaveFits : List ℕ → List ℕ → Members → Type 0
  HaveFits b p ns = (k : List ℕ) (w : Tree) → find k ns ≡ Some w
      → Fits (form_at (encode_utf8_all k)) b (at_key p k) (is_dynamic (encode_utf8_all k)) w

  -- a member of the bundled root, at the key of one of the document
  pub member_fits : (b p : List ℕ) (ns ws : Members) (is : Bool) → keywords_fit root is ws ≡ true → (k : List ℕ) (w : Tree)
      → find k ns ≡ Some w → find k ws ≡ find k (pointed_among to b p ns)
      → Fits (form_at (encode_utf8_all k)) b (at_key p k) (is_dynamic (encode_utf8_all k)) w
  member_fits b p ns ws is h k w e same = from_fit (form_at (encode_utf8_all k)) b (at_key p k) (is_dynamic (encode_utf8_all k)) w
      (λ kept. fit_member root k ws (changed to b p k w) is h
      (same ∙ (found_pointed to b p k ns kept ∙ ap (option_map (changed to b p k)) e)))

  members_fit : (b p : List ℕ) (ns : Members) (is : Bool) → keywords_fit root is (pointed_among to b p ns) ≡ true → HaveFits b p ns
  members_fit b p ns is h k w e = member_fits b p ns (pointed_among to b p ns) is h k w e refl

  of_form : (f : Form) (b p q : List ℕ) (dynamic : Bool) (w : Tree) (names : List Marked) → IsSet all b → Fits f b q dynamic w
      → AreAmong all (marks_by f names (reference_marks p w) (marks_in b q w) (marks_in_list b q w) (marks_in_map b q w))
      → (Fits form.Schema b q dynamic w → AreAmong all (marks_in b q w) → lead_in on b w ≡ true)
      → (Fits form.Schemas b q dynamic w → AreAmong all (marks_in_list b q w) → lead_in_list on b w ≡ true)
      → (Fits form.SchemaMap b q dynamic w → AreAmong all (marks_in_map b q w) → lead_in_map on b w ≡ true)
      → lead_by f (on b dynamic w) (lead_in on b w) (lead_in_list on b w) (lead_in_map on b w) ≡ true
  of_form form.Reference b p q dynamic w ns set h d x y m = is_on b p dynamic w set d h
  of_form form.Schema b p q dynamic w ns set h d x y m = x h d
  of_form form.Schemas b p q dynamic w ns set h d x y m = y h d
  of_form form.SchemaMap b p q dynamic w ns set h d x y m = m h d
  of_form form.PatternMap b p q dynamic w ns set h d x y m = m h d
  of_form _ b p q dynamic w ns set h d x y m = refl

  abbrev own_marks : List ℕ → List ℕ → List ℕ → Tree → List Marked
  own_marks b p k w = marks_by (form_at (encode_utf8_all k)) (name_marks (name_kind (encode_utf8_all k)) b p w) (reference_marks p w)
      (marks_in b (at_key p k) w) (marks_in_list b (at_key p k) w) (marks_in_map b (at_key p k) w)

  mutual
    in_schema : (b p : List ℕ) (w : Tree) → IsSet all b → IsTree w → Fit root form.Schema (pointed to b p w) → AreAmong all (marks_in b p w)
        → lead_in on b w ≡ true
    in_schema b p (object ns) set s h d = among (base_in b (object ns)) p ns ns
        (based b p ns set (under_first all (resource_marks (base_in b (object ns)) p (object ns))
        (marks_among (base_in b (object ns)) p ns) d))
        s.0 s.1 (members_fit (base_in b (object ns)) p ns h.0 h.1) (λ k v e. e)
        (under_second all (resource_marks (base_in b (object ns)) p (object ns)) (marks_among (base_in b (object ns)) p ns) d)
    in_schema b p _ set s h d = refl

    among : (b p : List ℕ) (ns ms : Members) → IsSet all b → AreMembersAt power_width ms → IsSorted ms → HaveFits b p ns
        → ((k : List ℕ) (v : Tree) → find k ms ≡ Some v → find k ns ≡ Some v) → AreAmong all (marks_among b p ms)
        → lead_among on b ms ≡ true
    among b p ns no_members set s o h g d = refl
    among b p ns (member k w ms) set s o h g d = and_from _ _
        (of_form (form_at (encode_utf8_all k)) b p (at_key p k) (is_dynamic (encode_utf8_all k)) w
        (name_marks (name_kind (encode_utf8_all k)) b p w) set (h k w (first_found k w ms ns g))
        (under_first all (own_marks b p k w) (marks_among b p ms) d) (in_schema b (at_key p k) w set s.1) (in_list b (at_key p k) w set s.1)
        (in_map b (at_key p k) w set s.1))
        (among b p ns ms set s.2 o.1 h (rest_found k w ms ns o g)
        (under_second all (own_marks b p k w) (marks_among b p ms) d))

    in_list : (b p : List ℕ) (w : Tree) → IsSet all b → IsTree w → Fit root form.Schemas (pointed_list to b p w)
        → AreAmong all (marks_in_list b p w) → lead_in_list on b w ≡ true
    in_list b p (array ts) set s h d = of_items b p 0 ts set s
        (and_parts (is_some_item (pointed_items to b p 0 ts)) (are_schemas root (pointed_items to b p 0 ts)) h).1 d
    in_list b p _ set s h d = refl

    in_map : (b p : List ℕ) (w : Tree) → IsSet all b → IsTree w
        → ((l : List ℕ) (v : Tree) → find l (members_in w) ≡ Some v → Fit root form.Schema (pointed to b (at_key p l) v))
        → AreAmong all (marks_in_map b p w) → lead_in_map on b w ≡ true
    in_map b p (object es) set s h d = of_members b p es es set s.0 s.1 h (λ k v e. e) d
    in_map b p _ set s h d = refl

    of_items : (b p : List ℕ) (i : ℕ) (ts : Items) → IsSet all b → AreItemsAt power_width ts
        → are_schemas root (pointed_items to b p i ts) ≡ true → AreAmong all (marks_of_items b p i ts) → lead_of_items on b ts ≡ true
    of_items b p i no_items set s h d = refl
    of_items b p i (item v ts) set s h d =
        let fits = and_parts (is_schema root false (pointed to b (at_index p i) v))
        (are_schemas root (pointed_items to b p (suc i) ts)) h in
        and_from _ _
        (in_schema b (at_index p i) v set s.0 (false, fits.0)
        (under_first all (marks_in b (at_index p i) v) (marks_of_items b p (suc i) ts) d))
        (of_items b p (suc i) ts set s.1 fits.1 (under_second all (marks_in b (at_index p i) v) (marks_of_items b p (suc i) ts) d))

    of_members : (b p : List ℕ) (ns ms : Members) → IsSet all b → AreMembersAt power_width ms → IsSorted ms
        → ((l : List ℕ) (v : Tree) → find l ns ≡ Some v → Fit root form.Schema (pointed to b (at_key p l) v))
        → ((k : List ℕ) (v : Tree) → find k ms ≡ Some v → find k ns ≡ Some v) → AreAmong all (marks_of_members b p ms)
        → lead_of_members on b ms ≡ true
    of_members b p ns no_members set s o h g d = refl
    of_members b p ns (member k w ms) set s o h g d = and_from _ _
        (in_schema b (at_key p k) w set s.1 (h k w (first_found k w ms ns g))
        (under_first all (marks_in b (at_key p k) w) (marks_of_members b p ms) d))
        (of_members b p ns ms set s.2 o.1 h (rest_found k w ms ns o g)
        (under_second all (marks_in b (at_key p k) w) (marks_of_members b p ms) d))

-- ---- the document

root_cut : (o : Option Tree) → without_fragment (base_by [] o) ≡ base_by [] o
root_cut (Some (string cs)) = cut_twice (resolved [] (encode_utf8_all cs))
root_cut None = refl
root_cut (Some _) = refl

-- the members of the document fit, bundled
pub root_leads : (ns : Members) (root : Tree) (to : Leads) (on : List ℕ → Bool → Tree → Bool)
    (is_on : (b p : List ℕ) (dynamic : Bool) (w : Tree) → IsSet (marks_of (object ns)) b
    → AreAmong (marks_of (object ns)) (reference_marks p w) → leads root (pointing to dynamic b w) ≡ true → on b dynamic w ≡ true)
    → IsTree (object ns) → HaveFits (marks_of (object ns)) root to on is_on (base_in [] (object ns)) [] ns
    → lead_in on [] (object ns) ≡ true
root_leads ns root to on is_on s h = among (marks_of (object ns)) root to on is_on (base_in [] (object ns)) [] ns ns
    (record {
      cut = root_cut (schema_at (object ns) kw.Id);
      placed = ap (λ x. is_some (cond x (Some []) (place_of (marks_among (base_in [] (object ns)) [] ns) (base_in [] (object ns)))))
          ((bytes_eq-Decides (base_in [] (object ns)) (base_in [] (object ns))).1 refl);
    })
    s.0 s.1 h (λ k v e. e) (λ m a. inr a)

module _ (z : List ℕ) (some : Bool) (copies : List Reached) where
  abbrev pub guide_of : Tree → Leads
  guide_of t = leads_of (place_of (marks_of t)) (marks_of t) (base_in [] t) z some copies from_root

  -- The document is bundled without copies.
  pub each_leads : (t : Tree) → IsTree t → is_schema (pointed (guide_of t) [] [] t) true (pointed (guide_of t) [] [] t) ≡ true
      → all_lead t ≡ true
  each_leads (object ns) s h = root_leads ns (pointed (guide_of (object ns)) [] [] (object ns)) (guide_of (object ns))
      (to_place (marks_of (object ns))) is_on s
      (members_fit (marks_of (object ns)) (pointed (guide_of (object ns)) [] [] (object ns)) (guide_of (object ns))
      (to_place (marks_of (object ns))) is_on (base_in [] (object ns)) [] ns true h)
    where
      is_on : (b p : List ℕ) (dynamic : Bool) (w : Tree) → IsSet (marks_of (object ns)) b
          → AreAmong (marks_of (object ns)) (reference_marks p w)
          → leads (pointed (guide_of (object ns)) [] [] (object ns)) (pointing (guide_of (object ns)) dynamic b w) ≡ true
          → to_place (marks_of (object ns)) b dynamic w ≡ true
      is_on b p dynamic w set m = leads_on (marks_of (object ns)) (base_in [] (object ns)) z some copies from_root
          (pointed (guide_of (object ns)) [] [] (object ns)) (unnamed (guide_of (object ns)) (object ns) s) b dynamic w set
  each_leads _ s h = refl
