-- A document of one resource that can be applied: its references lead in each dynamic scope where they lead in a root schema.
use Rattle.std.proofs.Common.{◌≡◌, ℕ, Bool, true, false, ◌&&◌, ◌==◌, List, [], ◌∷◌, Option, Some, None}
use Rattle.std.proofs.Common.{cond, refl, sym, ap, ◌∙◌, true≢false, subst, option_map, encode_utf8_all, IsTrue, eqb-true}
use Rattle.std.proofs.lemmas.Bool.{and_parts}
use Rattle.std.proofs.lemmas.Slice.Eq.{bytes_eq-Decides}
use Rattle.std.proofs.lemmas.Str.{encodes-chars, scalars-chars, IsUtf8-from_is_utf8}
use Rattle.std.specs.Option.{option_map_or, option_or}
use Rattle.std.specs.Prelude.{⊤, ◌↔◌, option_and_then, unwrap_or}
use Rattle.std.specs.Str.{IsUtf8, is_utf8, chars, all_scalars}
use Rattle.tinyjson.specs.Access.{is_string}
use Rattle.tinyjson.specs.Tree.{Tree, boolean, string, array, object, Items, no_items, item, Members, no_members, member}
use Rattle.tinyjson_grammar.specs.Soundness.{IsTree}
use Rattle.tinyjson_pointer.specs.Text.{pointer_tokens}
use Rattle.tinyjson_pointer.specs.Walk.{part_at}
use Rattle.text_uri.specs.Resolving.{resolved}
use Rattle.tinyjson_schema_keywords.specs.Anchors.{anchors_in, anchored, is_plain_name, is_name_start, are_name_parts}
use Rattle.tinyjson_schema_keywords.specs.Applied.{schema_at}
use Rattle.tinyjson_schema_keywords.specs.Forms.{form_of, is_some_item}
use Rattle.tinyjson_schema_keywords.specs.Names.{name}
use Rattle.tinyjson_schema_keywords.specs.References.{percent_decoded, reference_bytes, form_after, is_schema_form, schema_from}
use Rattle.tinyjson_schema_keywords.specs.References.{at_pointer, at_text, at_fragment, target, referenced}
use Rattle.tinyjson_schema_keywords.specs.declared.keyword.Form.{Form}
use Rattle.tinyjson_schema_keywords.specs.declared.keyword.Form.TheVariants as form
use Rattle.tinyjson_schema_keywords.specs.declared.keyword.Keyword.{Keyword}
use Rattle.tinyjson_schema_keywords.specs.declared.keyword.Keyword.TheVariants as kw
use Rattle.tinyjson_schema_bundle.specs.Bundles as bundle
use Rattle.tinyjson_schema_bundle.specs.Bundles.{marks_of, marks_among, place_of, dynamic_place, with_name, base_by, base_in, is_dynamic}
use Rattle.tinyjson_schema_bundle.specs.Bundles.{begins_pointer, place_after, place_below, leads_by, first_place}
use Rattle.tinyjson_schema.specs.Circles.{settles, reference_steps, leads}
use Rattle.tinyjson_schema.specs.Nested.{is_reference}
use Rattle.tinyjson_schema.specs.Schemas.{fits, is_schema, keywords_fit, are_schemas, have_schemas}
use Rattle.tinyjson_schema.specs.Valid.{IsValidIn, refuses_all}
use Rattle.tinyjson_schema_laws.specs.Laws.{IsAlone, ExactAlone, DecidedAlone}
use Rattle.tinyjson_schema_laws.specs.Scoped.{Scope, Scoped, IsValidScoped, judged, entered, outermost, dynamic_in, leads_in, led_to}
use Rattle.tinyjson_schema_laws.specs.Scoped.{located_at, located, target_in}
use Rattle.tinyjson_schema_laws.specs.Short.{IsShort}
use Rattle.tinyjson_schema_laws.proofs.Bisimilar.{AllRel, MapRel, ValueRel, LedRel, Simulates, is_applied}
use Rattle.tinyjson_schema_laws.proofs.Dynamic.{in_base, empty_base}
use Rattle.tinyjson_schema_laws.proofs.Exactly.{exactly, each_value_decided}
use Rattle.tinyjson_schema_laws.proofs.Fitting.{fit_found, no_id, led_there}
use Rattle.tinyjson_schema_laws.proofs.Fragments.{base_clean, front_kept, inside_resolved}
use Rattle.tinyjson_schema_laws.proofs.Letters.{tokens_text}
use Rattle.tinyjson_schema_laws.proofs.Located.{text_begins}
use Rattle.tinyjson_schema_laws.proofs.Places.{AreScalars, tokens_scalars}
use Rattle.tinyjson_schema_laws.proofs.Pointed.{form_named}
use Rattle.tinyjson_schema_laws.proofs.Texts.{located_there}
use Rattle.tinyjson_schema_laws.proofs.Ties.{Holds, named_place, dynamic_same}

-- ---- plain names

plain_begins : (ds : List ℕ) → is_plain_name ds ≡ true → begins_pointer ds ≡ false
plain_begins [] h = absurd (true≢false (sym h))
plain_begins (c ∷ cs) h = by (c == 47) refl
  where
    by : (x : Bool) → (c == 47) ≡ x → x ≡ false
    by true e = absurd (true≢false (sym h ∙ ap (λ x. is_name_start x && are_name_parts cs) (eqb-true c 47 e)))
    by false e = refl

-- ---- values of a keyword

none_same : (R : Tree → Tree → Type 0) (f : Form) → ValueRel R f None None
none_same R form.Base = tt
none_same R form.Anchor = tt
none_same R form.Reference = tt
none_same R form.Schema = tt
none_same R form.Schemas = tt
none_same R form.SchemaMap = tt
none_same R form.PatternMap = tt
none_same R _ = refl

module _ (t : Tree) (R : Tree → Tree → Type 0) (one : (w : Tree) → is_schema t false w ≡ true → R w w) where
  items_same : (ts : Items) → are_schemas t ts ≡ true → AllRel R ts ts
  items_same no_items h = tt
  items_same (item w ts) h =
      let parts = and_parts (is_schema t false w) (are_schemas t ts) h in (one w parts.0, items_same ts parts.1)

  members_same : (ms : Members) → have_schemas t ms ≡ true → MapRel R ms ms
  members_same no_members h = tt
  members_same (member k w ms) h =
      let parts = and_parts (is_schema t false w) (have_schemas t ms) h in (refl, one w parts.0, members_same ms parts.1)

  some_same : (f : Form) (x : Bool) (w : Tree) → fits t x f w ≡ true → ValueRel R f (Some w) (Some w)
  some_same form.Base x w h = tt
  some_same form.Anchor x w h = tt
  some_same form.Reference x w h = tt
  some_same form.Schema x w h = one w h
  some_same form.Schemas x (array ts) h = items_same ts (and_parts (is_some_item ts) (are_schemas t ts) h).1
  some_same form.Schemas x _ h = tt
  some_same form.SchemaMap x (object ms) h = members_same ms h
  some_same form.SchemaMap x _ h = tt
  some_same form.PatternMap x (object ms) h = members_same ms (and_parts _ (have_schemas t ms) h).1
  some_same form.PatternMap x _ h = tt
  some_same _ x w h = refl

  value_same : (f : Form) (x : Bool) (o : Option Tree) → ((w : Tree) → o ≡ Some w → fits t x f w ≡ true) → ValueRel R f o o
  value_same f x None h = none_same R f
  value_same f x (Some w) h = some_same f x w (h w refl)

value_fits : (t s : Tree) (x : Bool) → is_schema t x s ≡ true → (k : Keyword) (w : Tree) → schema_at s k ≡ Some w
    → fits t x (form_of k) w ≡ true
value_fits t (object ns) x h k w e = subst (λ f. fits t x f w ≡ true) (form_named k) (fit_found t (name k) ns w x h e)
value_fits t (boolean y) x h k w e = absurd (let none : None ≡ Some w = e in cc)
value_fits t _ x h k w e = absurd (true≢false (sym h))

module _ (ms : Members) (sound : IsTree (object ms)) (short : IsShort (object ms)) (fit : keywords_fit (object ms) true ms ≡ true) where
  abbrev t : Tree
  t = object ms

  abbrev b : List ℕ
  b = base_in [] (object ms)

  -- ---- the dynamic scope has the root only

  abbrev AreRoots : Scope → Type 0
  AreRoots [] = ⊤
  AreRoots (u ∷ c) = (u ≡ b) × AreRoots c

  or_itself : (o : Option (List ℕ)) → option_or o o ≡ o
  or_itself None = refl
  or_itself (Some p) = refl

  outermost_root : (n : List ℕ) (c : Scope) → AreRoots c
      → option_or (outermost (marks_of t) c n) (dynamic_place (marks_of t) (with_name b n)) ≡ dynamic_place (marks_of t) (with_name b n)
  outermost_root n [] h = refl
  outermost_root n (u ∷ c) h =
      ap (λ v. option_or (option_or (outermost (marks_of t) c n) (dynamic_place (marks_of t) (with_name v n)))
      (dynamic_place (marks_of t) (with_name b n))) h.0
      ∙ (ap (λ o. option_or o (dynamic_place (marks_of t) (with_name b n))) (outermost_root n c h.1)
      ∙ or_itself (dynamic_place (marks_of t) (with_name b n)))

  module _ (c : Scope) (roots : AreRoots c) where
    dynamic_root : (n : List ℕ) → dynamic_in (marks_of t) (b ∷ c) b n ≡ place_of (marks_of t) (with_name b n)
    dynamic_root n = by (dynamic_place (marks_of t) (with_name b n)) refl
      where
        by : (o : Option (List ℕ)) → dynamic_place (marks_of t) (with_name b n) ≡ o
            → option_map_or (λ p. Some (unwrap_or (outermost (marks_of t) (b ∷ c) n) p)) o (place_of (marks_of t) (with_name b n))
            ≡ place_of (marks_of t) (with_name b n)
        by None e = refl
        by (Some p) e = ap (λ o. Some (unwrap_or o p)) (outermost_root n c roots ∙ e) ∙ sym (dynamic_same t sound short fit n p e)

    -- ---- where references lead

    -- the place is one of the schema r
    abbrev Leads_to : Option (List ℕ) → Tree → Type 0
    Leads_to o r = (q : List ℕ) × (o ≡ Some q) × Holds t q r

    by_name : (dynamic : Bool) (ds : List ℕ) (r : Tree) → anchored (anchors_in t) ds ≡ Some r
        → Leads_to (cond dynamic (dynamic_in (marks_of t) (b ∷ c) b ds) (place_of (marks_of t) (with_name b ds))) r
    by_name true ds r e = subst (λ o. Leads_to o r) (sym (dynamic_root ds)) (named_place t sound short fit ds r e)
    by_name false ds r e = named_place t sound short fit ds r e

    root_found : place_of (marks_of t) b ≡ Some []
    root_found = ap (λ x. cond x (Some []) (place_of (marks_among b [] ms) b)) ((bytes_eq-Decides b b).1 refl)

    some_tokens : (o : Option (List (List ℕ))) (r : Tree) → option_and_then (schema_from t) o ≡ Some r
        → (ks : List (List ℕ)) × (o ≡ Some ks) × (schema_from t ks ≡ Some r)
    some_tokens None r e = absurd (let none : None ≡ Some r = e in cc)
    some_tokens (Some ks) r e = (ks, refl, e)

    from_parts : (ks : List (List ℕ)) (r : Tree) → schema_from t ks ≡ Some r
        → (is_schema_form (form_after form.Schema ks) ≡ true) × (part_at t ks ≡ Some r)
    from_parts ks r e = by (is_schema_form (form_after form.Schema ks)) e
      where
        by : (x : Bool) → cond x (part_at t ks) None ≡ Some r → (x ≡ true) × (part_at t ks ≡ Some r)
        by true f = (refl, f)
        by false f = absurd (let none : None ≡ Some r = f in cc)

    abbrev By_text : Bool → List ℕ → Tree → Bool → Type 0
    By_text dynamic ds r x = Leads_to (cond x (option_and_then (λ p. place_below p ds) (place_of (marks_of t) b))
        (cond dynamic (dynamic_in (marks_of t) (b ∷ c) b ds) (place_of (marks_of t) (with_name b ds)))) r

    module _ (ds : List ℕ) (utf8 : is_utf8 ds ≡ true) where
      text : IsUtf8 ds
      text = IsUtf8-from_is_utf8 ds utf8

      pointer_begins : (ks : List (List ℕ)) → pointer_tokens (chars ds) ≡ Some ks → begins_pointer ds ≡ true
      pointer_begins ks e = ap begins_pointer (sym (encodes-chars ds text))
          ∙ (ap (λ cs. begins_pointer (encode_utf8_all cs)) (sym (tokens_text (chars ds) ks e)) ∙ text_begins ks)

      pointer_scalars : (ks : List (List ℕ)) → pointer_tokens (chars ds) ≡ Some ks → AreScalars ks
      pointer_scalars ks e = tokens_scalars ks
          (subst (λ cs. IsTrue (all_scalars cs)) (sym (tokens_text (chars ds) ks e)) (scalars-chars ds text))

      by_pointer : (ks : List (List ℕ)) (r : Tree) → pointer_tokens (chars ds) ≡ Some ks → schema_from t ks ≡ Some r
          → Leads_to (option_and_then (λ p. place_below p ds) (place_of (marks_of t) b)) r
      by_pointer ks r e f =
          let parts = from_parts ks r f in (
            place_after [] ks,
            ap (option_and_then (λ p. place_below p ds)) root_found ∙ ap (option_map (place_after [])) e,
            there (led_there t ms fit ks r parts.0 parts.1),
          )
        where
          there : (located form.Schema [] t ks ≡ Some (b, r)) × (x : Bool) × (is_schema t x r ≡ true) → Holds t (place_after [] ks) r
          there (g, x, h) = record { at = located_there ks (pointer_scalars ks e) t ∙ g; whole = x; fit = h }

      by_text : (dynamic : Bool) (r : Tree) → at_text t ds ≡ Some r
          → Leads_to (bundle.leads_in (leads_in (marks_of t) (b ∷ c)) dynamic b b ds) r
      by_text dynamic r e = by (is_plain_name ds) refl e
        where
          by : (x : Bool) → is_plain_name ds ≡ x → cond x (anchored (anchors_in t) ds) (at_pointer t (chars ds)) ≡ Some r
              → By_text dynamic ds r (begins_pointer ds)
          by true f g = subst (By_text dynamic ds r) (sym (plain_begins ds f)) (by_name dynamic ds r g)
          by false f g =
              let some = some_tokens (pointer_tokens (chars ds)) r g in
              subst (By_text dynamic ds r) (sym (pointer_begins some.0 some.1)) (by_pointer some.0 r some.1 some.2)

    opened : (dynamic : Bool) (f ds : List ℕ) → percent_decoded f ≡ Some ds
        → first_place (leads_in (marks_of t) (b ∷ c)) dynamic b (with_name b f)
        ≡ leads_by (leads_in (marks_of t) (b ∷ c)) dynamic b b ds
    opened dynamic f ds e =
        (λ i. option_and_then (leads_by (leads_in (marks_of t) (b ∷ c)) dynamic b (front_kept b f (base_clean t) i))
        (percent_decoded (unwrap_or (in_base [] t empty_base f i) [])))
        ∙ ap (option_and_then (leads_by (leads_in (marks_of t) (b ∷ c)) dynamic b b)) e

    by_fragment : (dynamic : Bool) (f ds : List ℕ) (r : Tree) → percent_decoded f ≡ Some ds → at_fragment t ds ≡ Some r
        → Leads_to (first_place (leads_in (marks_of t) (b ∷ c)) dynamic b (with_name b f)) r
    by_fragment dynamic f ds r e g = subst (λ o. Leads_to o r) (sym (opened dynamic f ds e)) (by (is_utf8 ds) refl g)
      where
        by : (x : Bool) → is_utf8 ds ≡ x → cond x (at_text t ds) None ≡ Some r
            → Leads_to (cond x (bundle.leads_in (leads_in (marks_of t) (b ∷ c)) dynamic b b ds) None) r
        by true h k = by_text ds h dynamic r k
        by false h k = absurd (let none : None ≡ Some r = k in cc)

    by_bytes : (dynamic : Bool) (bs : List ℕ) (r : Tree) → option_and_then (at_fragment t) (reference_bytes bs) ≡ Some r
        → Leads_to (first_place (leads_in (marks_of t) (b ∷ c)) dynamic b (resolved b bs)) r
    by_bytes dynamic [] r e = absurd (let none : None ≡ Some r = e in cc)
    by_bytes dynamic (x ∷ f) r e = by (x == 35) refl e
      where
        decoded : (o : Option (List ℕ)) → percent_decoded f ≡ o → option_and_then (at_fragment t) o ≡ Some r
            → Leads_to (first_place (leads_in (marks_of t) (b ∷ c)) dynamic b (with_name b f)) r
        decoded None h g = absurd (let none : None ≡ Some r = g in cc)
        decoded (Some ds) h g = by_fragment dynamic f ds r h g

        by : (y : Bool) → (x == 35) ≡ y → option_and_then (at_fragment t) (cond y (percent_decoded f) None) ≡ Some r
            → Leads_to (first_place (leads_in (marks_of t) (b ∷ c)) dynamic b (resolved b (x ∷ f))) r
        by true h g = subst (λ u. Leads_to (first_place (leads_in (marks_of t) (b ∷ c)) dynamic b u) r)
            (sym (ap (λ y. resolved b (y ∷ f)) (eqb-true x 35 h) ∙ inside_resolved b f (base_clean t)))
            (decoded (percent_decoded f) refl g)
        by false h g = absurd (let none : None ≡ Some r = g in cc)

  -- ---- the schemas of the document, in scopes of its root

  abbrev Related : Scope → Tree → Tree → Type 0
  Related c s r = (d : Scope) × (c ≡ b ∷ d) × AreRoots d × (s ≡ r) × (x : Bool) × (is_schema t x r ≡ true)

  sub_related : (d : Scope) → AreRoots d → (w : Tree) → is_schema t false w ≡ true → Related (entered (b ∷ d) w) w w
  sub_related d h w f = (
    d,
    ap (λ o. cond (option_map_or is_string o false) (base_by b o ∷ (b ∷ d)) (b ∷ d)) (no_id t w f),
    h,
    refl,
    false,
    f,
  )

  abbrev lifted : Scope → List ℕ × Tree → Scope × Tree
  lifted c x = (x.0 ∷ c, x.1)

  abbrev in_scope : Scope → Option (List ℕ) → Option (Scope × Tree)
  in_scope c o = option_map (lifted c) (option_and_then (located_at t) o)

  module _ (d : Scope) (roots : AreRoots d) (dynamic : Bool) where
    one_led : (w : Tree) → leads t w ≡ true
        → LedRel Related (target t w) (in_scope (b ∷ d) (led_to (marks_of t) (b ∷ d) dynamic w))
    one_led (string cs) h = by (target t (string cs)) refl h
      where
        by : (o : Option Tree) → target t (string cs) ≡ o → option_map_or (settles t reference_steps) o false ≡ true
            → LedRel Related o (in_scope (b ∷ d) (led_to (marks_of t) (b ∷ d) dynamic (string cs)))
        by None e g = absurd (true≢false (sym g))
        by (Some r) e g =
            let to = by_bytes d roots dynamic (encode_utf8_all cs) r e in
            subst (LedRel Related (Some r)) (sym (ap (in_scope (b ∷ d)) to.1 ∙ ap (option_map (lifted (b ∷ d))) to.2.at))
            (b ∷ d, refl, (refl, roots), refl, to.2.whole, to.2.fit)
    one_led _ h = absurd (true≢false (sym h))

    keyword_led : (o : Option Tree) → ((w : Tree) → o ≡ Some w → leads t w ≡ true)
        → LedRel Related (option_and_then (target t) o) (in_scope (b ∷ d) (option_and_then (led_to (marks_of t) (b ∷ d) dynamic) o))
    keyword_led None h = tt
    keyword_led (Some w) h = one_led w (h w refl)

  led : (c : Scope) (s r : Tree) → Related c s r → (k : Keyword) → is_reference k ≡ true
      → LedRel Related (referenced t k r) (target_in t c k s)
  led c s r (d, e, roots, same, x, f) k h = subst (λ y. LedRel Related (referenced t k r) (target_in t y k s)) (sym e)
      (subst (λ y. LedRel Related (referenced t k r) (target_in t (b ∷ d) k y)) (sym same)
      (keyword_led d roots (is_dynamic (name k)) (schema_at r k) (λ w g. by k h w (value_fits t r x f k w g))))
    where
      by : (k : Keyword) → is_reference k ≡ true → (w : Tree) → fits t x (form_of k) w ≡ true → leads t w ≡ true
      by kw.Ref h w g = g
      by kw.DynamicRef h w g = g
      by _ h w g = absurd (true≢false (sym h))

  parts : (c : Scope) (s r : Tree) → Related c s r → (k : Keyword) → is_applied k ≡ true
      → ValueRel (λ q v. Related (entered c q) q v) (form_of k) (schema_at s k) (schema_at r k)
  parts c s r (d, e, roots, same, x, f) k h =
      subst (λ y. ValueRel (λ q v. Related (entered y q) q v) (form_of k) (schema_at s k) (schema_at r k)) (sym e)
      (subst (λ y. ValueRel (λ q v. Related (entered (b ∷ d) q) q v) (form_of k) (schema_at y k) (schema_at r k)) (sym same)
      (value_same t (λ q v. Related (entered (b ∷ d) q) q v) (sub_related d roots) (form_of k) x (schema_at r k)
      (λ w. value_fits t r x f k w)))

  refuses : (c : Scope) (s r : Tree) → Related c s r → refuses_all s ≡ refuses_all r
  refuses c s r (d, e, roots, same, x, f) = ap refuses_all same

  fitting : (c : Scope) (s r : Tree) → Related c s r → (x : Bool) × (is_schema t x r ≡ true)
  fitting c s r (d, e, roots, same, x, f) = (x, f)

  simulates : Simulates t t Related
  simulates = record {
    refuses = refuses;
    parts = parts;
    led = led;
    fit = fitting;
  }

  exact_object : (formats : Bool) (u : Tree) → IsValidScoped t formats u ↔ IsValidIn (record { tree = t; formats = formats }) u
  exact_object formats u = exactly t t Related simulates ([], refl, tt, refl, true, fit) formats u

  decided_object : (formats : Bool) (u : Tree) → (is : Bool) × (n : ℕ) × ((g : Scoped) → judged t formats n g u ≡ is)
  decided_object formats u = each_value_decided t t Related simulates ([], refl, tt, refl, true, fit) formats u

-- ---- the laws

module _ (x : Bool) where
  abbrev AreBoolean : Scope → Tree → Tree → Type 0
  AreBoolean c s r = (s ≡ boolean x) × (r ≡ boolean x)

  boolean_simulates : Simulates (boolean x) (boolean x) AreBoolean
  boolean_simulates = record {
    refuses = λ c s r h. ap refuses_all (h.0 ∙ sym h.1);
    parts = λ c s r h k e. subst (λ y. ValueRel (λ q v. AreBoolean (entered c q) q v) (form_of k) (schema_at y k) (schema_at r k)) (sym h.0)
        (subst (λ y. ValueRel (λ q v. AreBoolean (entered c q) q v) (form_of k) None (schema_at y k)) (sym h.1)
        (none_same (λ q v. AreBoolean (entered c q) q v) (form_of k)));
    led = λ c s r h k e. subst (λ y. LedRel AreBoolean (referenced (boolean x) k r) (target_in (boolean x) c k y)) (sym h.0)
        (subst (λ y. LedRel AreBoolean (referenced (boolean x) k y) None) (sym h.1) tt);
    fit = λ c s r h. (true, ap (is_schema (boolean x) true) h.1);
  }

pub exact_alone : ExactAlone
exact_alone t is formats u = by t is
  where
    by : (t : Tree) → IsAlone t → IsValidScoped t formats u ↔ IsValidIn (record { tree = t; formats = formats }) u
    by (object ms) is = exact_object ms is.sound is.short is.applied formats u
    by (boolean x) is = exactly (boolean x) (boolean x) (AreBoolean x) (boolean_simulates x) (refl, refl) formats u
    by _ is = absurd (true≢false (sym is.applied))

pub decided_alone : DecidedAlone
decided_alone t is formats u = by t is
  where
    by : (t : Tree) → IsAlone t → (is : Bool) × (n : ℕ) × ((g : Scoped) → judged t formats n g u ≡ is)
    by (object ms) is = decided_object ms is.sound is.short is.applied formats u
    by (boolean x) is = each_value_decided (boolean x) (boolean x) (AreBoolean x) (boolean_simulates x) (refl, refl) formats u
    by _ is = absurd (true≢false (sym is.applied))
