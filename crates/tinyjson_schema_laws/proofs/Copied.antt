-- A document and the bundled one with copies do the same.
use Rattle.std.proofs.Common.{◌≡◌, ◌⊎◌, ℕ, ◌<◌, ◌^◌, Bool, true, false, List, [], ◌∷◌, ◌++◌, Option, Some, None}
use Rattle.std.proofs.Common.{cond, refl, sym, ap, ◌∙◌, true≢false, bytes_eq, subst, length, encode_utf8_all, option_map, inl, inr}
use Rattle.std.proofs.lemmas.Slice.Eq.{bytes_eq-Decides}
use Rattle.std.specs.Option.{option_map_or}
use Rattle.std.specs.Prelude.{option_and_then, unwrap_or}
use lib.Utf8.{encode}
use Rattle.tinyjson.specs.Access.{is_string}
use Rattle.tinyjson.specs.Tree.{Tree, string, object, Members, find}
use Rattle.tinyjson_grammar.specs.Soundness.{IsTree}
use Rattle.tinyjson_pointer.specs.Walk.{step}
use Rattle.text_uri.specs.Resolving.{resolved, without_fragment}
use Rattle.tinyjson_schema_keywords.specs.Applied.{schema_at}
use Rattle.tinyjson_schema_keywords.specs.Forms.{form_of, form_at}
use Rattle.tinyjson_schema_keywords.specs.Names.{name}
use Rattle.tinyjson_schema_keywords.specs.References.{referenced, target, form_in}
use Rattle.tinyjson_schema_keywords.specs.declared.keyword.Form.{Form}
use Rattle.tinyjson_schema_keywords.specs.declared.keyword.Form.TheVariants as form
use Rattle.tinyjson_schema_keywords.specs.declared.keyword.Keyword.{Keyword}
use Rattle.tinyjson_schema_keywords.specs.declared.keyword.Keyword.TheVariants as kw
use Rattle.tinyjson_schema_bundle.specs.Bundles.{Leads, marks_of, place_of, base_by, base_in, is_dynamic, pointed, pointed_among}
use Rattle.tinyjson_schema_bundle.specs.Bundles.{pointing, at_key}
use Rattle.tinyjson_schema_bundle.specs.Bundles.{pointed_list, pointed_map}
use Rattle.tinyjson_schema_bundle.specs.Scopes.{Reached, from_root, scope_at}
use Rattle.tinyjson_schema.specs.Circles.{leads}
use Rattle.tinyjson_schema.specs.Nested.{is_reference}
use Rattle.tinyjson_schema.specs.Schemas.{is_schema, keywords_fit}
use Rattle.tinyjson_schema.specs.Valid.{refuses_all}
use Rattle.tinyjson_schema_laws.specs.Laws.{BeginsIn, AreUris, kept}
use Rattle.tinyjson_schema_laws.proofs.Leading.{lead_by, lead_in, lead_in_list, lead_in_map, lead_among, to_schema}
use Rattle.tinyjson_schema_laws.specs.Scoped.{Scope, base, entered, outer, led_to, located, located_at, base_within, target_in}
use Rattle.tinyjson_schema_laws.proofs.Bisimilar.{ValueRel, LedRel, Simulates, is_applied}
use Rattle.tinyjson_schema_laws.proofs.Dynamic.{ends_more}
use Rattle.tinyjson_schema_laws.proofs.Kept.{cut_twice}
use Rattle.tinyjson_schema_laws.proofs.Led.{IsHomed, AreFaithful, IsKeptAt, reference_led}
use Rattle.tinyjson_schema_laws.proofs.Looking.{IsPart, IsRoot}
use Rattle.tinyjson_schema_laws.proofs.Parts.{IsIn, keyword_related}
use Rattle.tinyjson_schema_laws.proofs.Pointed.{is_kept, picked, changed, found_pointed, no_schema_same}
use Rattle.tinyjson_schema_laws.proofs.Simulation.{base_entered}
use Rattle.tinyjson_schema_laws.proofs.Texts.{located_there}
use Rattle.tinyjson_schema_laws.proofs.Walk.{Fit, fit_member, lead_found}
use Rattle.tinyjson_schema_laws.proofs.Whole.{leading, whole, main, is_whole}

-- ---- base URIs have no fragment

abbrev IsUri : List ℕ → Type 0
IsUri u = without_fragment u ≡ u

by_uri : (b : List ℕ) (o : Option Tree) → IsUri b → IsUri (base_by b o)
by_uri b (Some (string cs)) h = cut_twice (resolved b (encode_utf8_all cs))
by_uri b None h = h
by_uri b (Some _) h = h

pub in_uri : (b : List ℕ) (s : Tree) → IsUri b → IsUri (base_in b s)
in_uri b s h = by_uri b (schema_at s kw.Id) h

within_uri : (f : Form) (b : List ℕ) (w : Tree) → IsUri b → IsUri (base_within f b w)
within_uri form.Schema b w h = in_uri b w h
within_uri _ b w h = h

located_uri : (ks : List (List ℕ)) (f : Form) (b : List ℕ) (w : Tree) (x : List ℕ × Tree) → IsUri b → located f b w ks ≡ Some x → IsUri x.0
located_uri [] form.Schema b w x h e = by x e
  where
    by : (y : List ℕ × Tree) → Some (base_in b w, w) ≡ Some y → IsUri y.0
    by y g = subst (λ u. IsUri u) (ap (λ o. option_map_or (λ v. v.0) o []) g) (in_uri b w h)
located_uri [] _ b w x h e = absurd (let none : None ≡ Some x = e in cc)
located_uri (k ∷ ks) f b w x h e =
    by (step w k) (λ v. located_uri ks (form_in f k) (base_within f b w) v x (within_uri f b w h)) e
  where
    by : (o : Option Tree) → ((v : Tree) → located (form_in f k) (base_within f b w) v ks ≡ Some x → IsUri x.0)
        → option_and_then (λ v. located (form_in f k) (base_within f b w) v ks) o ≡ Some x → IsUri x.0
    by None later g = absurd (let none : None ≡ Some x = g in cc)
    by (Some v) later g = later v g

ends_in : (r : List ℕ) (c : Scope) (s : Tree) → BeginsIn r c → BeginsIn r (entered c s)
ends_in r c s h = by (option_map_or is_string (schema_at s kw.Id) false)
  where
    by : (x : Bool) → BeginsIn r (cond x (base_in (base c) s ∷ c) c)
    by true = ends_more r (base_in (base c) s) c h
    by false = h

uris_entered : (c : Scope) (s : Tree) → IsUri (base c) → AreUris c → AreUris (entered c s)
uris_entered c s h uris = by (option_map_or is_string (schema_at s kw.Id) false)
  where
    by : (x : Bool) → AreUris (cond x (base_in (base c) s ∷ c) c)
    by true = (in_uri (base c) s h, uris)
    by false = uris

base_uri : (c : Scope) → AreUris c → IsUri (base c)
base_uri [] h = refl
base_uri (u ∷ c) h = h.0

-- ---- keywords

name_other : (k : Keyword) → is_applied k ≡ true → bytes_eq (name k) (name kw.Defs) ≡ false
unfolding encode
name_other kw.Defs e = sym e
name_other _ e = refl

refuses_made : (to : Leads) (d p : List ℕ) (s : Tree) → refuses_all s ≡ refuses_all (pointed to d p s)
refuses_made to d p (object ns) = refl
refuses_made to d p _ = refl

module _ (ms : Members) (copies : List Reached) (few : length copies < 2 ^ 64)
    (fit : is_schema (whole (object ms) copies) true (whole (object ms) copies) ≡ true) (sound : IsTree (object ms))
    (lead : lead_in (to_schema (object ms)) [] (object ms) ≡ true) where
  abbrev t : Tree
  t = object ms

  abbrev on : List ℕ → Bool → Tree → Bool
  on = to_schema t

  abbrev in_whole : Tree
  in_whole = whole t copies

  abbrev Part : Reached → List ℕ → Tree → Tree → Type 0
  Part = IsPart ms copies few fit sound on lead

  abbrev Root : Reached → List ℕ → Tree → Tree → Type 0
  Root = IsRoot ms copies few fit sound on lead

  abbrev pub Faithful : Type 0
  Faithful = AreFaithful ms copies few fit sound on lead

  -- that a schema stands at a place of the document where the state keeps the scope, with the base URI of the scope
  pub record Positions (Keeps : Scope → Reached → Tree → Type 0) : Type 0 where
    pub root : Keeps (outer t) from_root t
    pub below : (c : Scope) (st : Reached) (ns : Members) → Keeps c st (object ns) → (k : Keyword) (w v : Tree) → find (name k) ns ≡ Some w
        → IsIn (form_of k) w v → Keeps (entered c v) st v
    pub based : (c : Scope) (st : Reached) (s : Tree) → Keeps c st s
        → kept (marks_of t) (base_in [] t) c ≡ scope_at (marks_of t) (base_in [] t) st (unwrap_or (place_of (marks_of t) (base c)) [])
    pub homed : (c : Scope) (st : Reached) (s : Tree) → Keeps c st s → (dynamic : Bool) (w : Tree) → on (base c) dynamic w ≡ true
        → (q : List ℕ) × (x : List ℕ × Tree) × (led_to (marks_of t) c dynamic w ≡ Some q) × IsHomed t q x
    pub reached : (c : Scope) (q : List ℕ) (x : List ℕ × Tree) (r : Tree) → IsHomed t q x
        → (h : IsKeptAt ms copies few fit sound on lead (x.0 ∷ c) q x r) → Keeps (x.0 ∷ c) h.state x.1

  module _ (Keeps : Scope → Reached → Tree → Type 0) (positions : Positions Keeps) (faithful : Faithful) where
    abbrev pub Related : Scope → Tree → Tree → Type 0
    Related c s r = (st : Reached) × BeginsIn (base_in [] t) c × AreUris c × Keeps c st s
        × (Part st (base c) s r ⊎ Root st (base c) s r)

    -- ---- subschemas

    module _ (c : Scope) (ends : BeginsIn (base_in [] (object ms)) c) (uris : AreUris c) (st : Reached) (p : List ℕ) (ns : Members)
        (keeps : Keeps c st (object ns)) (lead_on : lead_among (to_schema (object ms)) (base c) ns ≡ true) (sounds : IsTree (object ns))
      where
        abbrev Sub : Tree → Tree → Type 0
        Sub q v = Related (entered c q) q v

        abbrev among : Members
        among = pointed_among (leading t copies st) (base c) p ns

        parts_related : (k : Keyword) → ((v : Tree) → find (name k) among ≡ Some v → Fit in_whole (form_at (encode_utf8_all (name k))) v)
            → ValueRel Sub (form_of k) (find (name k) ns) (find (name k) among)
        parts_related k fits = keyword_related in_whole on (leading t copies st) (base c) p ns lead_on sounds Sub k
            (λ w v e i q r made s l f. (
              st,
              ends_in (base_in [] t) c v ends,
              uris_entered c v (base_uri c uris) uris,
              positions.below c st ns keeps k w v e i,
              inl (subst (λ b. Part st b v r) (sym (base_entered c v)) (record {
                around = base c;
                place = q;
                whole = f.0;
                based = refl;
                made = made;
                fit = f.1;
                sound = s;
                leading = l;
              })),
            )) fits

        -- ---- references

        module _ (k : Keyword) (is : form_at (encode_utf8_all (name k)) ≡ form.Reference) (same : encode_utf8_all (name k) ≡ name k)
            (fits : (v : Tree) → find (name k) (pointed_among (leading (object ms) copies st) (base c) p ns) ≡ Some v
            → Fit (whole (object ms) copies) (form_at (encode_utf8_all (name k))) v) where
          abbrev led_by_key : Option Tree → Option (Scope × Tree)
          led_by_key o = option_map (λ x. (x.0 ∷ c, x.1))
              (option_and_then (located_at t) (option_and_then (led_to (marks_of t) c (is_dynamic (name k))) o))

          reads : (w : Tree) → changed (leading t copies st) (base c) p (name k) w
              ≡ pointing (leading t copies st) (is_dynamic (name k)) (base c) w
          reads w = ap (λ f. picked f w (pointing (leading t copies st) (is_dynamic (encode_utf8_all (name k))) (base c) w)
              (pointed (leading t copies st) (base c) (at_key p (name k)) w) (pointed_list (leading t copies st) (base c)
              (at_key p (name k))
              w)
              (pointed_map (leading t copies st) (base c) (at_key p (name k)) w)) is
              ∙ ap (λ x. pointing (leading t copies st) (is_dynamic x) (base c) w) same

          found_is : (w : Tree) → find (name k) ns ≡ Some w
              → find (name k) among ≡ Some (pointing (leading t copies st) (is_dynamic (name k)) (base c) w)
          found_is w e = found_pointed (leading t copies st) (base c) p (name k) ns (ap is_kept is)
              ∙ (ap (option_map (changed (leading t copies st) (base c) p (name k))) e ∙ ap Some (reads w))

          on_is : (w : Tree) → find (name k) ns ≡ Some w → on (base c) (is_dynamic (name k)) w ≡ true
          on_is w e = sym (ap (λ x. on (base c) (is_dynamic x) w) same)
              ∙ (sym (ap (λ f. lead_by f (on (base c) (is_dynamic (encode_utf8_all (name k))) w) (lead_in on (base c) w)
              (lead_in_list on (base c) w)
              (lead_in_map on (base c) w)) is)
              ∙ lead_found on (base c) (name k) ns w lead_on e)

          one_led : (w : Tree) (q : List ℕ) (x : List ℕ × Tree) → led_to (marks_of t) c (is_dynamic (name k)) w ≡ Some q → IsHomed t q x
              → leads in_whole (pointing (leading t copies st) (is_dynamic (name k)) (base c) w) ≡ true
              → LedRel Related (target in_whole (pointing (leading t copies st) (is_dynamic (name k)) (base c) w)) (led_by_key (Some w))
          one_led (string cs) q x e h l =
              let r = reference_led ms copies few fit sound on lead faithful c ends uris st (positions.based c st (object ns) keeps)
              (is_dynamic (name k)) cs q x e h l in
              let there : located_at t q ≡ Some x = ap (located_at t) h.place ∙ (located_there (h.outer ++ h.inner) h.scalars t ∙ h.is) in
              subst (λ o. LedRel Related (target in_whole (pointing (leading t copies st) (is_dynamic (name k)) (base c) (string cs)))
              (option_map (λ x. (x.0 ∷ c, x.1)) o)) (sym (ap (option_and_then (located_at t)) e ∙ there))
              (subst (λ o. LedRel Related o (Some (x.0 ∷ c, x.1))) (sym r.1) (
                r.2.state,
                ends_more (base_in [] t) x.0 c ends,
                (located_uri (h.outer ++ h.inner) form.Schema [] t x refl h.is, uris),
                positions.reached c q x r.0 h r.2,
                r.2.part,
              ))
          one_led _ q x e h l = absurd (let none : None ≡ Some q = e in cc)

          key_led : LedRel Related (option_and_then (target in_whole) (find (name k) among)) (led_by_key (find (name k) ns))
          key_led = by (find (name k) ns) refl
            where
              by : (o : Option Tree) → find (name k) ns ≡ o → LedRel Related (option_and_then (target (whole (object ms) copies))
                  (find (name k) (pointed_among (leading (object ms) copies st) (base c) p ns)))
                  (option_map (λ x. (x.0 ∷ c, x.1)) (option_and_then (located_at (object ms))
                  (option_and_then (led_to (marks_of (object ms)) c
                  (is_dynamic (name k))) o)))
              by None e = subst (λ o. LedRel Related (option_and_then (target (whole (object ms) copies)) o) None)
                  (sym (found_pointed (leading (object ms) copies st) (base c) p (name k) ns (ap is_kept is)
                  ∙ ap (option_map (changed (leading (object ms) copies st) (base c) p (name k))) e)) tt
              by (Some w) e =
                  let h = positions.homed c st (object ns) keeps (is_dynamic (name k)) w (on_is w e) in
                  subst (λ o. LedRel Related (option_and_then (target (whole (object ms) copies)) o) (led_by_key (Some w)))
                  (sym (found_is w e))
                  (one_led w h.0 h.1 h.2 h.3 (subst (λ f. Fit (whole (object ms) copies) f
                  (pointing (leading (object ms) copies st) (is_dynamic (name k)) (base c) w)) is (fits _ (found_is w e))))

    -- ---- a schema and the bundled one, in a scope

    refuses : (c : Scope) (s r : Tree) → Related c s r → refuses_all s ≡ refuses_all r
    refuses c s r (st, ends, uris, keeps, inl m) = refuses_made (leading t copies st) m.around m.place s ∙ ap refuses_all (sym m.made)
    refuses c s r (st, ends, uris, keeps, inr m) =
        ap refuses_all m.2 ∙ ap refuses_all (sym ((is_whole ms copies fit).1.same) ∙ sym m.3)

    fitting : (c : Scope) (s r : Tree) → Related c s r → (x : Bool) × (is_schema in_whole x r ≡ true)
    fitting c s r (st, ends, uris, keeps, inl m) = (m.whole, m.fit)
    fitting c s r (st, ends, uris, keeps, inr m) = (true, ap (is_schema in_whole true) m.3 ∙ fit)

    -- in the root, other members than `$defs` are those without copies
    abbrev members : Members
    members = (is_whole ms copies fit).0

    applied_found : (k : Keyword) → is_applied k ≡ true → find (name k) members ≡ find (name k) (main ms copies)
    applied_found k e = (is_whole ms copies fit).1.others (name k)
        (λ h. true≢false (sym ((bytes_eq-Decides (name k) (name kw.Defs)).1 h) ∙ name_other k e))

    abbrev plain : Scope → Members
    plain c = pointed_among (leading t copies from_root) (base c) [] ms

    module _ (c : Scope) (is_base : base c ≡ base_in [] (object ms)) (k : Keyword) (applied : is_applied k ≡ true) where
      plain_found : find (name k) members ≡ find (name k) (plain c)
      plain_found = applied_found k applied ∙ ap (λ u. find (name k) (pointed_among (leading t copies from_root) u [] ms)) (sym is_base)

      plain_fits : (v : Tree) → find (name k) (plain c) ≡ Some v → Fit in_whole (form_at (encode_utf8_all (name k))) v
      plain_fits v e = fit_member in_whole (name k) members v true
          (subst (λ x. is_schema in_whole true x ≡ true) (is_whole ms copies fit).1.same fit) (plain_found ∙ e)

      whole_at : schema_at in_whole k ≡ find (name k) (plain c)
      whole_at = ap (λ x. schema_at x k) (is_whole ms copies fit).1.same ∙ plain_found

    lead_plain : (c : Scope) → base c ≡ base_in [] t → lead_among on (base c) ms ≡ true
    lead_plain c e = ap (λ u. lead_among on u ms) e ∙ lead

    root_keeps : (c : Scope) (st : Reached) (s : Tree) → Keeps c st s → st ≡ from_root → s ≡ t → Keeps c from_root t
    root_keeps c st s h e f = subst (λ x. Keeps c x t) e (subst (Keeps c st) f h)

    abbrev Subs : Scope → Tree → Tree → Type 0
    Subs c q v = Related (entered c q) q v

    module _ (c : Scope) (ends : BeginsIn (base_in [] (object ms)) c) (uris : AreUris c) (st : Reached) where
      part_values : (s : Tree) (d p : List ℕ) (x : Bool) → base_in d s ≡ base c → IsTree s → lead_in on d s ≡ true
          → is_schema in_whole x (pointed (leading t copies st) d p s) ≡ true → Keeps c st s → (k : Keyword)
          → ValueRel (Subs c) (form_of k) (schema_at s k) (schema_at (pointed (leading t copies st) d p s) k)
      part_values (object ns) d p x e s l f g k = subst (λ u. ValueRel (Subs c) (form_of k) (find (name k) ns)
          (find (name k) (pointed_among (leading t copies st) u p ns))) (sym e)
          (parts_related c ends uris st p ns g (subst (λ u. lead_among on u ns ≡ true) e l) s k
          (λ v. fit_member in_whole (name k) (pointed_among (leading t copies st) (base c) p ns) v x
          (subst (λ u. keywords_fit in_whole x (pointed_among (leading t copies st) u p ns) ≡ true) e f)))
      part_values _ d p x e s l f g k = no_schema_same (Subs c) (leading t copies st) (base c) (form_of k)

      part_led : (k : Keyword) → form_at (encode_utf8_all (name k)) ≡ form.Reference → encode_utf8_all (name k) ≡ name k
          → (s : Tree) (d p : List ℕ) (x : Bool) → base_in d s ≡ base c → IsTree s → lead_in on d s ≡ true
          → is_schema in_whole x (pointed (leading t copies st) d p s) ≡ true → Keeps c st s
          → LedRel Related (referenced in_whole k (pointed (leading t copies st) d p s)) (target_in t c k s)
      part_led k i j (object ns) d p x e s l f g = subst (λ u. LedRel Related (option_and_then (target in_whole) (find (name k)
          (pointed_among (leading t copies st) u p ns))) (target_in t c k (object ns))) (sym e)
          (key_led c ends uris st p ns g (subst (λ u. lead_among on u ns ≡ true) e l) s k i j
          (λ v. fit_member in_whole (name k) (pointed_among (leading t copies st) (base c) p ns) v x
          (subst (λ u. keywords_fit in_whole x (pointed_among (leading t copies st) u p ns) ≡ true) e f)))
      part_led k i j _ d p x e s l f g = tt

    parts : (c : Scope) (s r : Tree) → Related c s r → (k : Keyword) → is_applied k ≡ true
        → ValueRel (Subs c) (form_of k) (schema_at s k) (schema_at r k)
    parts c s r (st, ends, uris, keeps, inl m) k e = subst (λ x. ValueRel (Subs c) (form_of k) (schema_at s k) (schema_at x k)) (sym m.made)
        (part_values c ends uris st s m.around m.place m.whole m.based m.sound m.leading
        (subst (λ x. is_schema in_whole m.whole x ≡ true) m.made m.fit) keeps k)
    parts c s r (st, ends, uris, keeps, inr m) k e =
        subst (λ x. ValueRel (Subs c) (form_of k) (schema_at x k) (schema_at r k)) (sym m.2)
        (subst (λ x. ValueRel (Subs c) (form_of k) (find (name k) ms) (schema_at x k)) (sym m.3)
        (subst (λ o. ValueRel (Subs c) (form_of k) (find (name k) ms) o) (sym (whole_at c m.1 k e))
        (parts_related c ends uris from_root [] ms (root_keeps c st s keeps m.0 m.2) (lead_plain c m.1) sound k (plain_fits c m.1 k e))))

    leads_on : (c : Scope) (s r : Tree) → Related c s r → (k : Keyword) → is_applied k ≡ true
        → form_at (encode_utf8_all (name k)) ≡ form.Reference → encode_utf8_all (name k) ≡ name k
        → LedRel Related (referenced in_whole k r) (target_in t c k s)
    leads_on c s r (st, ends, uris, keeps, inl m) k e i j = subst (λ x. LedRel Related (referenced in_whole k x) (target_in t c k s))
        (sym m.made)
        (part_led c ends uris st k i j s m.around m.place m.whole m.based m.sound m.leading
        (subst (λ x. is_schema in_whole m.whole x ≡ true) m.made m.fit) keeps)
    leads_on c s r (st, ends, uris, keeps, inr m) k e i j =
        subst (λ x. LedRel Related (referenced in_whole k r) (target_in t c k x)) (sym m.2)
        (subst (λ x. LedRel Related (referenced in_whole k x) (target_in t c k t)) (sym m.3)
        (subst (λ o. LedRel Related (option_and_then (target in_whole) o) (target_in t c k t)) (sym (whole_at c m.1 k e))
        (key_led c ends uris from_root [] ms (root_keeps c st s keeps m.0 m.2) (lead_plain c m.1) sound k i j (plain_fits c m.1 k e))))

    led : (c : Scope) (s r : Tree) → Related c s r → (k : Keyword) → is_reference k ≡ true
        → LedRel Related (referenced in_whole k r) (target_in t c k s)
    unfolding encode
    led c s r h kw.Ref e = leads_on c s r h kw.Ref refl refl refl
    led c s r h kw.DynamicRef e = leads_on c s r h kw.DynamicRef refl refl refl
    led c s r h _ e = absurd (true≢false (sym e))

    pub simulates : Simulates (object ms) (whole (object ms) copies) Related
    simulates = record { refuses = refuses; parts = parts; led = led; fit = fitting }

    pub begins : Related (outer (object ms)) (object ms) (whole (object ms) copies)
    begins = (from_root, refl, (in_uri [] (object ms) refl, tt), positions.root, inr (refl, refl, refl, refl))
