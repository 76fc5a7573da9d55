-- In a bundled document that can be applied no `$id` is left in a subschema: so each resource has a URI of its own.
use Rattle.std.proofs.Common.{◌≡◌, ◌≢◌, ℕ, zero, suc, ◌+◌, ◌<◌, ◌^◌, Bool, true, false, not, ◌||◌, List, [], ◌∷◌, ◌++◌, Option}
use Rattle.std.proofs.Common.{Some, None}
use Rattle.std.proofs.Common.{cond, refl, sym, ap, ◌∙◌, true≢false, bytes_eq, subst, option_map, encode_utf8_all, arith, codes, length}
use Rattle.std.proofs.lemmas.Bool.{and_parts}
use Rattle.std.proofs.lemmas.Option.{same_Some}
use Rattle.std.proofs.lemmas.Slice.Eq.{bytes_eq-Decides}
use Rattle.std.specs.Option.{option_map_or}
use Rattle.std.specs.Prelude.{⊤, option_and_then, unwrap_or}
use Rattle.text_uri.specs.Resolving.{fragment_of}
use Rattle.tinyjson.proofs.Callers.{find_below, find_put, find_put_same}
use Rattle.tinyjson.specs.Access.{is_string}
use Rattle.tinyjson.specs.Index.{nth}
use lib.Utf8.{encode}
use Rattle.tinyjson.specs.Tree.{Tree, string, array, object, Items, no_items, item, Members, no_members, member, find}
use Rattle.tinyjson_grammar.specs.Soundness.{IsTree, IsSorted}
use Rattle.tinyjson_schema_keywords.specs.Applied.{schema_at, items_in, members_in}
use Rattle.tinyjson_schema_keywords.specs.Forms.{form_at, is_some_item}
use Rattle.tinyjson_schema_keywords.specs.Names.{name}
use Rattle.tinyjson_schema_keywords.specs.declared.keyword.Form.{Form}
use Rattle.tinyjson_schema_keywords.specs.declared.keyword.Form.TheVariants as form
use Rattle.tinyjson_schema_keywords.specs.declared.keyword.Keyword.TheVariants as kw
use Rattle.tinyjson_schema_bundle.specs.Bundles.{Marked, Leads, marks_of, place_of, base_in, at_key, at_index, is_empty}
use Rattle.tinyjson_schema_bundle.specs.Bundles.{is_resource}
use Rattle.tinyjson_schema_bundle.specs.Bundles.{resource_marks, name_kind, name_marks, reference_marks, is_fragment}
use Rattle.tinyjson_schema_bundle.specs.Bundles.{marks_by}
use Rattle.tinyjson_schema_bundle.specs.Bundles.{marks_in, marks_among, marks_in_list, marks_in_map, marks_of_items, marks_of_members}
use Rattle.tinyjson_schema_bundle.specs.Bundles.{pointed, pointed_among, pointed_list, pointed_map, pointed_items, pointed_members, kept_of}
use Rattle.tinyjson_schema_bundle.specs.Bundles.{put_some, kept_by, kept_id, kept_anchor, pointing, is_dynamic, is_own_id, is_here}
use Rattle.tinyjson_schema_bundle.specs.Scopes.{Reached, from_root, is_resource_mark}
use Rattle.tinyjson_schema_bundle.specs.declared.mark.Kind.TheVariants as kind
use Rattle.tinyjson_schema.specs.Schemas.{fits, is_schema, keywords_fit, is_schema_list, is_schema_map, are_schemas, have_schemas}
use Rattle.tinyjson_schema_laws.proofs.Leading.{lead_in}
use Rattle.tinyjson_schema_laws.proofs.Looking.{entry_is, map_is}
use Rattle.tinyjson_schema_laws.proofs.Pointed.{changed, found_pointed, form_named}
use Rattle.tinyjson_schema_laws.proofs.Walk.{is_live, live_kept, live_changed, form_pointed, find_pointed, found_sound, nth_sound}
use Rattle.tinyjson_schema_laws.proofs.Walk.{first_found, rest_found}
use Rattle.tinyjson_schema_laws.proofs.Whole.{defs, leading, whole, made, IsWhole, is_whole}

no_some : {A B : Type 0} (v : A) → None ≡ Some v → B
no_some v e = absurd (let none : None ≡ Some v = e in cc)

-- ---- what fits in a schema

module _ (root : Tree) where
  fits_member : (k : List ℕ) (ms : Members) (v : Tree) (is : Bool) → keywords_fit root is ms ≡ true → find k ms ≡ Some v
      → fits root is (form_at (encode_utf8_all k)) v ≡ true
  fits_member k no_members v is h e = no_some v e
  fits_member k (member l u ms) v is h e = by (fits_member k ms v is (and_parts _ (keywords_fit root is ms) h).1) (bytes_eq k l) refl e
    where
      by : (find k ms ≡ Some v → fits root is (form_at (encode_utf8_all k)) v ≡ true) → (b : Bool) → bytes_eq k l ≡ b
          → cond b (Some u) (find k ms) ≡ Some v → fits root is (form_at (encode_utf8_all k)) v ≡ true
      by later true g e =
          let same : u ≡ v = same_Some u v e in
          let here : l ≡ k = sym ((bytes_eq-Decides k l).0 g) in
          subst (λ w. fits root is (form_at (encode_utf8_all k)) w ≡ true) same (subst
          (λ x. fits root is (form_at (encode_utf8_all x)) u ≡ true)
          here (and_parts _ (keywords_fit root is ms) h).0)
      by later false g e = later e

  fits_item : (ts : Items) (i : ℕ) (v : Tree) → are_schemas root ts ≡ true → nth ts i ≡ Some v → is_schema root false v ≡ true
  fits_item no_items i v h e = no_some v e
  fits_item (item t ts) zero v h e = subst (λ w. is_schema root false w ≡ true) (same_Some t v e)
      (and_parts (is_schema root false t) (are_schemas root ts) h).0
  fits_item (item t ts) (suc i) v h e = fits_item ts i v (and_parts (is_schema root false t) (are_schemas root ts) h).1 e

  fits_entry : (k : List ℕ) (ms : Members) (v : Tree) → have_schemas root ms ≡ true → find k ms ≡ Some v → is_schema root false v ≡ true
  fits_entry k no_members v h e = no_some v e
  fits_entry k (member l u ms) v h e =
      by (fits_entry k ms v (and_parts (is_schema root false u) (have_schemas root ms) h).1) (bytes_eq k l) e
    where
      by : (find k ms ≡ Some v → is_schema root false v ≡ true) → (b : Bool) → cond b (Some u) (find k ms) ≡ Some v
          → is_schema root false v ≡ true
      by later true e = subst (λ w. is_schema root false w ≡ true) (same_Some u v e)
          (and_parts (is_schema root false u) (have_schemas root ms) h).0
      by later false e = later e

-- ---- what is found in a bundled schema, whatever its form

module _ (to : Leads) (b p : List ℕ) where
  abbrev keeps : List ℕ → Tree → Option Tree
  keeps k w = kept_of to (encode_utf8_all k) b p (at_key p k) w

  put_past : (n k : List ℕ) (o : Option Tree) (ms : Members) → bytes_eq n k ≡ false → find n (put_some k o ms) ≡ find n ms
  put_past n k None ms e = refl
  put_past n k (Some v) ms e = find_put n k v ms ∙ ap (λ c. cond c (Some v) (find n ms)) e

  found_any : (n : List ℕ) (ms : Members) → IsSorted ms → find n (pointed_among to b p ms) ≡ option_and_then (keeps n) (find n ms)
  found_any n no_members s = refl
  found_any n (member k w ms) s = by (found_any n ms s.1) (bytes_eq n k) refl
    where
      here : (o : Option Tree) → find n (pointed_among to b p ms) ≡ None → n ≡ k → find n (put_some k o (pointed_among to b p ms)) ≡ o
      here None e f = e
      here (Some v) e f = ap (λ x. find x (put_some k (Some v) (pointed_among to b p ms))) f ∙ find_put_same k v (pointed_among to b p ms)

      by : find n (pointed_among to b p ms) ≡ option_and_then (keeps n) (find n ms) → (c : Bool) → bytes_eq n k ≡ c
          → find n (put_some k (keeps k w) (pointed_among to b p ms)) ≡ option_and_then (keeps n) (cond c (Some w) (find n ms))
      by later true e =
          let is : n ≡ k = (bytes_eq-Decides n k).0 e in
          here (keeps k w) (later ∙ ap (option_and_then (keeps n)) (ap (λ x. find x ms) is ∙ find_below k ms s.0 s.1)) is
          ∙ ap (λ x. keeps x w) (sym is)
      by later false e = put_past n k (keeps k w) (pointed_among to b p ms) e ∙ later

  -- an item is bundled at its place
  nth_at : (j : ℕ) (ts : Items) (i n : ℕ) → n ≡ j + i → nth (pointed_items to b p j ts) i
      ≡ option_map (pointed to b (at_index p n)) (nth ts i)
  nth_at j no_items i n e = refl
  nth_at j (item t ts) zero n e = let same : j ≡ n = omega (arith, e) in ap (λ x. Some (pointed to b (at_index p x) t)) same
  nth_at j (item t ts) (suc i) n e = nth_at (suc j) ts i n (omega (arith, e))

-- ---- resources of their own

module _ (all : List Marked) where
  -- each resource among the marks is the first with its URI
  abbrev pub AreOwn : List Marked → Type 0
  AreOwn [] = ⊤
  AreOwn (m ∷ ms) = (is_resource_mark m.0 ≡ true → place_of all m.1 ≡ Some m.2) × AreOwn ms

  both : (ms ns : List Marked) → AreOwn ms → AreOwn ns → AreOwn (ms ++ ns)
  both [] ns g h = h
  both (m ∷ ms) ns g h = (g.0, both ms ns g.1 h)

  names : (key b p : List ℕ) (w : Tree) → AreOwn (name_marks (name_kind key) b p w)
  names key b p (string cs) = (λ h. absurd (true≢false (sym h ∙ by (bytes_eq key (name kw.DynamicAnchor)))), tt)
    where
      by : (x : Bool) → is_resource_mark (cond x kind.DynamicName kind.Name) ≡ false
      by true = refl
      by false = refl
  names key b p _ = tt

  references : (p : List ℕ) (w : Tree) → AreOwn (reference_marks p w)
  references p (string cs) = (λ h. absurd (true≢false (sym h ∙ by (is_fragment (encode_utf8_all cs)))), tt)
    where
      by : (x : Bool) → is_resource_mark (cond x kind.Inside kind.Outside) ≡ false
      by true = refl
      by false = refl
  references p _ = tt

  module _ (root : Tree) (to : Leads) (at : (u : List ℕ) → to.0 u ≡ place_of all u) where
    -- the schemas in a value of the form fit, bundled
    abbrev Fits : Form → List ℕ → List ℕ → Tree → Type 0
    Fits form.Schema b q w = is_schema root false (pointed to b q w) ≡ true
    Fits form.Schemas b q w = (i : ℕ) (v : Tree) → nth (items_in w) i ≡ Some v → is_schema root false (pointed to b (at_index q i) v) ≡ true
    Fits form.SchemaMap b q w = (l : List ℕ) (v : Tree) → find l (members_in w) ≡ Some v
        → is_schema root false (pointed to b (at_key q l) v) ≡ true
    Fits form.PatternMap b q w = (l : List ℕ) (v : Tree) → find l (members_in w) ≡ Some v
        → is_schema root false (pointed to b (at_key q l) v) ≡ true
    Fits _ b q w = ⊤

    list_fits : (b q : List ℕ) (w : Tree) → is_schema_list root (pointed_list to b q w) ≡ true → Fits form.Schemas b q w
    list_fits b q (array ts) h i v e = fits_item root (pointed_items to b q 0 ts) i (pointed to b (at_index q i) v)
        (and_parts (is_some_item (pointed_items to b q 0 ts)) (are_schemas root (pointed_items to b q 0 ts)) h).1
        (nth_at to b q 0 ts i i (omega arith) ∙ ap (option_map (pointed to b (at_index q i))) e)
    list_fits b q _ h i v e = no_some v e

    map_fits : (b q : List ℕ) (w : Tree) → is_schema_map root (pointed_map to b q w) ≡ true → Fits form.SchemaMap b q w
    map_fits b q (object es) h l v e = fits_entry root l (pointed_members to b q es) (pointed to b (at_key q l) v) h
        (find_pointed root (λ b d w. true) to b q l es ∙ ap (option_map (pointed to b (at_key q l))) e)
    map_fits b q _ h l v e = no_some v e

    from_fits : (f : Form) (is : Bool) (b q : List ℕ) (w : Tree) → fits root is f (form_pointed root (λ b d w. true) to f b q w) ≡ true
        → Fits f b q w
    from_fits form.Schema is b q w h = h
    from_fits form.Schemas is b q w h = list_fits b q w h
    from_fits form.SchemaMap is b q w h = map_fits b q w h
    from_fits form.PatternMap is b q w h = map_fits b q w (and_parts _ (is_schema_map root (pointed_map to b q w)) h).1
    from_fits _ is b q w h = tt

    dead_fits : (f : Form) (b q : List ℕ) (w : Tree) → is_live f ≡ false → Fits f b q w
    dead_fits form.Schema b q w e = absurd (true≢false e)
    dead_fits form.Schemas b q w e = absurd (true≢false e)
    dead_fits form.SchemaMap b q w e = absurd (true≢false e)
    dead_fits form.PatternMap b q w e = absurd (true≢false e)
    dead_fits _ b q w e = tt

    -- the members of a schema fit
    abbrev HaveFits : List ℕ → List ℕ → Members → Type 0
    HaveFits b p ns = (k : List ℕ) (w : Tree) → find k ns ≡ Some w → Fits (form_at (encode_utf8_all k)) b (at_key p k) w × IsTree w

    member_found : (b p k : List ℕ) (ns : Members) (w : Tree) → find k ns ≡ Some w → is_live (form_at (encode_utf8_all k)) ≡ true
        → find k (pointed_among to b p ns) ≡ Some (form_pointed root (λ b d w. true) to (form_at (encode_utf8_all k)) b (at_key p k) w)
    member_found b p k ns w e l = found_pointed to b p k ns (live_kept root (λ b d w. true) to (form_at (encode_utf8_all k)) l)
        ∙ (ap (option_map (changed to b p k)) e ∙ ap Some (live_changed root (λ b d w. true) to (form_at (encode_utf8_all k)) b
        (at_key p k) w _ l))

    members_fits : (b p : List ℕ) (ns : Members) → keywords_fit root false (pointed_among to b p ns) ≡ true → IsTree (object ns)
        → HaveFits b p ns
    members_fits b p ns h s k w e = (by (is_live (form_at (encode_utf8_all k))) refl, found_sound k ns w s.0 e)
      where
        by : (x : Bool) → is_live (form_at (encode_utf8_all k)) ≡ x → Fits (form_at (encode_utf8_all k)) b (at_key p k) w
        by true l = from_fits (form_at (encode_utf8_all k)) false b (at_key p k) w (fits_member root k (pointed_among to b p ns) _ false h
            (member_found b p k ns w e l))
        by false l = dead_fits (form_at (encode_utf8_all k)) b (at_key p k) w l

    -- the `$id` of a subschema is left out
    own_id : (b p : List ℕ) (ns : Members) (cs : List ℕ) → keywords_fit root false (pointed_among to b p ns) ≡ true → IsSorted ns
        → find (name kw.Id) ns ≡ Some (string cs) → place_of all b ≡ Some p
    own_id b p ns cs h s e = by (is_own_id to.0 b p (encode_utf8_all cs)) refl
      where
        found : find (name kw.Id) (pointed_among to b p ns) ≡ kept_id to.0 b p (string cs)
        found = found_any to b p (name kw.Id) ns s ∙ (ap (option_and_then (keeps to b p (name kw.Id))) e
            ∙ (λ i. kept_by (form_named kw.Id i) (string cs) (kept_id to.0 b p (string cs)) (kept_anchor to.0 b p (string cs))
            (pointing to (is_dynamic (encode_utf8_all (name kw.Id))) b (string cs)) (pointed to b (at_key p (name kw.Id)) (string cs))
            (pointed_list to b (at_key p (name kw.Id)) (string cs)) (pointed_map to b (at_key p (name kw.Id)) (string cs))))

        here : (o : Option (List ℕ)) → is_here o p ≡ true → o ≡ Some p
        here None g = absurd (true≢false (sym g))
        here (Some q) g = ap Some ((bytes_eq-Decides q p).0 g)

        by : (x : Bool) → is_own_id to.0 b p (encode_utf8_all cs) ≡ x → place_of all b ≡ Some p
        by true g =
            let both = and_parts (not (is_empty p)) _ g in
            let rest = and_parts (is_empty (unwrap_or (fragment_of (encode_utf8_all cs)) [])) (is_here (to.0 b) p) both.1 in
            sym (at b) ∙ here (to.0 b) rest.1
        by false g = absurd (true≢false (sym (subst (λ f. fits root false f (string cs) ≡ true) (form_named kw.Id)
            (fits_member root (name kw.Id) (pointed_among to b p ns) (string cs) false h
            (found ∙ ap (λ x. cond x None (Some (string cs))) g)))))

    resources : (d p : List ℕ) (ns : Members) → is_empty p ≡ false → keywords_fit root false
        (pointed_among to (base_in d (object ns)) p ns) ≡ true
        → IsSorted ns → AreOwn (resource_marks (base_in d (object ns)) p (object ns))
    resources d p ns deep h s = by (schema_at (object ns) kw.Id) refl
      where
        b : List ℕ
        b = base_in d (object ns)

        by : (o : Option Tree) → schema_at (object ns) kw.Id ≡ o
            → AreOwn (cond (is_empty p || option_map_or is_string (schema_at (object ns) kw.Id) false)
            ((kind.Resource, base_in d (object ns), p) ∷ []) [])
        by (Some (string cs)) e = own (own_id (base_in d (object ns)) p ns cs h s e) (is_resource p (object ns))
          where
            own : place_of all (base_in d (object ns)) ≡ Some p → (x : Bool)
                → AreOwn (cond x ((kind.Resource, base_in d (object ns), p) ∷ []) [])
            own g true = (λ k. g, tt)
            own g false = tt
        by None e = none (λ i. deep i || option_map_or is_string (e i) false)
          where
            none : (is_empty p || option_map_or is_string (schema_at (object ns) kw.Id) false) ≡ false
                → AreOwn (cond (is_empty p || option_map_or is_string (schema_at (object ns) kw.Id) false)
                ((kind.Resource, base_in d (object ns), p) ∷ []) [])
            none g = subst (λ x. AreOwn (cond x ((kind.Resource, base_in d (object ns), p) ∷ []) [])) (sym g) tt
        by (Some w) e = none (λ i. deep i || option_map_or is_string (e i) false)
          where
            none : (is_empty p || option_map_or is_string (schema_at (object ns) kw.Id) false) ≡ false
                → AreOwn (cond (is_empty p || option_map_or is_string (schema_at (object ns) kw.Id) false)
                ((kind.Resource, base_in d (object ns), p) ∷ []) [])
            none g = subst (λ x. AreOwn (cond x ((kind.Resource, base_in d (object ns), p) ∷ []) [])) (sym g) tt

    deeper : (p x : List ℕ) → is_empty (p ++ 47 ∷ x) ≡ false
    deeper [] x = refl
    deeper (c ∷ p) x = refl

    -- the marks of a keyword
    of_form : (f : Form) (key b p q : List ℕ) (w : Tree) → Fits f b q w × IsTree w
        → (Fits form.Schema b q w × IsTree w → AreOwn (marks_in b q w)) → (Fits form.Schemas b q w × IsTree w
        → AreOwn (marks_in_list b q w))
        → (Fits form.SchemaMap b q w × IsTree w → AreOwn (marks_in_map b q w))
        → AreOwn (marks_by f (name_marks (name_kind key) b p w) (reference_marks p w) (marks_in b q w) (marks_in_list b q w)
        (marks_in_map b q w))
    of_form form.Anchor key b p q w h x y z = names key b p w
    of_form form.Reference key b p q w h x y z = references p w
    of_form form.Schema key b p q w h x y z = x h
    of_form form.Schemas key b p q w h x y z = y h
    of_form form.SchemaMap key b p q w h x y z = z h
    of_form form.PatternMap key b p q w h x y z = z h
    of_form _ key b p q w h x y z = tt

    mutual
      in_schema : (b p : List ℕ) (w : Tree) → is_empty p ≡ false → Fits form.Schema b p w × IsTree w → AreOwn (marks_in b p w)
      in_schema b p (object ns) deep h = both (resource_marks (base_in b (object ns)) p (object ns))
          (marks_among (base_in b (object ns)) p ns)
          (resources b p ns deep h.0 h.1.1) (among (base_in b (object ns)) p ns ns (members_fits (base_in b (object ns)) p ns h.0 h.1) h.1.1
          (λ k v e. e))
      in_schema b p _ deep h = tt

      among : (b p : List ℕ) (ns ms : Members) → HaveFits b p ns → IsSorted ms → ((k : List ℕ) (v : Tree) → find k ms ≡ Some v → find k ns
          ≡ Some v)
          → AreOwn (marks_among b p ms)
      among b p ns no_members h s g = tt
      among b p ns (member k w ms) h s g = both _ (marks_among b p ms)
          (of_form (form_at (encode_utf8_all k)) (encode_utf8_all k) b p (at_key p k) w (h k w (first_found k w ms ns g))
          (in_schema b (at_key p k) w (deeper p _)) (in_list b (at_key p k) w) (in_map b (at_key p k) w))
          (among b p ns ms h s.1 (rest_found k w ms ns s g))

      in_list : (b p : List ℕ) (w : Tree) → Fits form.Schemas b p w × IsTree w → AreOwn (marks_in_list b p w)
      in_list b p (array ts) h = of_items b p 0 ts ts h.0 (λ i v e. nth_sound ts i v h.1 e)
          (λ j n v l e. ap (nth ts) (let same : n ≡ j = omega (arith, l) in same) ∙ e)
      in_list b p _ h = tt

      in_map : (b p : List ℕ) (w : Tree) → Fits form.SchemaMap b p w × IsTree w → AreOwn (marks_in_map b p w)
      in_map b p (object es) h = of_members b p es es h.0 (λ l v e. found_sound l es v h.1.0 e) h.1.1 (λ k v e. e)
      in_map b p _ h = tt

      of_items : (b p : List ℕ) (i : ℕ) (us ts : Items) → Fits form.Schemas b p (array us)
          → ((i : ℕ) (v : Tree) → nth us i ≡ Some v → IsTree v)
          → ((j n : ℕ) (v : Tree) → n ≡ i + j → nth ts j ≡ Some v → nth us n ≡ Some v) → AreOwn (marks_of_items b p i ts)
      of_items b p i us no_items h s g = tt
      of_items b p i us (item v ts) h s g =
          let at : nth us i ≡ Some v = g 0 i v (omega arith) refl in
          both (marks_in b (at_index p i) v) (marks_of_items b p (suc i) ts)
          (in_schema b (at_index p i) v (deeper p _) (h i v at, s i v at))
          (of_items b p (suc i) us ts h s (λ j n x l e. g (suc j) n x (omega (arith, l)) e))

      of_members : (b p : List ℕ) (ns ms : Members) → Fits form.SchemaMap b p (object ns)
          → ((l : List ℕ) (v : Tree) → find l ns ≡ Some v → IsTree v)
          → IsSorted ms → ((k : List ℕ) (v : Tree) → find k ms ≡ Some v → find k ns ≡ Some v) → AreOwn (marks_of_members b p ms)
      of_members b p ns no_members h t s g = tt
      of_members b p ns (member k w ms) h t s g =
          let at : find k ns ≡ Some w = first_found k w ms ns g in
          both (marks_in b (at_key p k) w) (marks_of_members b p ms) (in_schema b (at_key p k) w (deeper p _) (h k w at, t k w at))
          (of_members b p ns ms h t s.1 (rest_found k w ms ns s g))

-- ---- the document

module _ (ms : Members) (copies : List Reached) (few : length copies < 2 ^ 64)
    (fit : is_schema (whole (object ms) copies) true (whole (object ms) copies) ≡ true) (sound : IsTree (object ms))
    (on : List ℕ → Bool → Tree → Bool) (lead : lead_in on [] (object ms) ≡ true) where
  abbrev t : Tree
  t = object ms

  abbrev to : Leads
  to = leading t copies from_root

  abbrev FitsIn : Form → List ℕ → List ℕ → Tree → Type 0
  FitsIn = Fits (marks_of t) (whole t copies) to (λ u. refl)

  w : (ws : Members) × IsWhole ms copies ws
  w = is_whole ms copies fit

  at_defs : at_key [] defs ≡ codes "/$defs"
  unfolding encode
  at_defs = refl

  defs_fit : (d : Tree) → find defs ms ≡ Some d → FitsIn form.SchemaMap (base_in [] t) (at_key [] defs) d
  defs_fit d e = subst (λ p. FitsIn form.SchemaMap (base_in [] (object ms)) p d) (sym at_defs) (λ l v f.
      let is = w.1.map d e in
      let map = map_is ms copies few fit sound on lead w.0 w.1 d e in
      let top : keywords_fit (whole (object ms) copies) true w.0 ≡ true = subst (λ x. is_schema (whole (object ms) copies) true x ≡ true)
      w.1.same fit in
      let own : have_schemas (whole (object ms) copies) (made ms copies w.1.old) ≡ true
      = subst (λ f. fits (whole (object ms) copies) true f (object (made ms copies w.1.old)) ≡ true) (form_named kw.Defs)
      (fits_member (whole (object ms) copies) defs w.0 (object (made ms copies w.1.old)) true top map) in
      fits_entry (whole (object ms) copies) l (made ms copies w.1.old) (pointed to (base_in [] (object ms)) (at_key (codes "/$defs") l) v)
      own
      (entry_is ms copies few fit sound on lead w.0 w.1 l (members_in d) v (e ∙ ap Some is) f))

  root_fits : HaveFits (marks_of t) (whole t copies) to (λ u. refl) (base_in [] t) [] ms
  root_fits k v e = (by (bytes_eq k defs) refl, found_sound k ms v sound.0 e)
    where
      other : k ≢ defs → (x : Bool) → is_live (form_at (encode_utf8_all k)) ≡ x
          → FitsIn (form_at (encode_utf8_all k)) (base_in [] (object ms)) (at_key [] k) v
      other n true l = from_fits (marks_of (object ms)) (whole (object ms) copies) to (λ u. refl) (form_at (encode_utf8_all k)) true
          (base_in [] (object ms)) (at_key [] k) v (fits_member (whole (object ms) copies) k w.0 _ true
          (subst (λ x. is_schema (whole (object ms) copies) true x ≡ true) w.1.same fit)
          (w.1.others k n ∙ member_found (marks_of (object ms)) (whole (object ms) copies) to (λ u. refl) (base_in [] (object ms)) [] k ms
          v e l))
      other n false l = dead_fits (marks_of (object ms)) (whole (object ms) copies) to (λ u. refl) (form_at (encode_utf8_all k))
          (base_in [] (object ms)) (at_key [] k) v l

      by : (x : Bool) → bytes_eq k defs ≡ x → FitsIn (form_at (encode_utf8_all k)) (base_in [] (object ms)) (at_key [] k) v
      by true h = let is : k ≡ defs = (bytes_eq-Decides k defs).0 h in
          subst (λ l. FitsIn (form_at (encode_utf8_all l)) (base_in [] (object ms)) (at_key [] l) v) (sym is)
          (subst (λ f. FitsIn f (base_in [] (object ms)) (at_key [] defs) v) (sym (form_named kw.Defs))
          (defs_fit v (ap (λ l. find l ms) (sym is) ∙ e)))
      by false h = other (λ is. true≢false (sym ((bytes_eq-Decides k defs).1 is) ∙ h)) (is_live (form_at (encode_utf8_all k))) refl

  pub root_place : place_of (marks_of t) (base_in [] t) ≡ Some []
  root_place = ap (λ x. cond x (Some []) (place_of (marks_among (base_in [] (object ms)) [] ms) (base_in [] (object ms))))
      ((bytes_eq-Decides (base_in [] (object ms)) (base_in [] (object ms))).1 refl)

  pub own_resources : AreOwn (marks_of t) (marks_of t)
  own_resources = (
    λ h. root_place,
    among (marks_of t) (whole t copies) to (λ u. refl) (base_in [] t) [] ms ms root_fits sound.1
        (λ k v e. e),
  )
