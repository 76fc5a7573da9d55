-- Tokens lead in the bundled document to the bundled schema that is where they lead in the document.
use Rattle.std.proofs.Common.{◌≡◌, ℕ, zero, suc, Bool, true, false, List, [], ◌∷◌, Option, Some, None}
use Rattle.std.proofs.Common.{cond, refl, sym, ap, ◌∙◌, true≢false, bytes_eq, subst, option_map, encode_utf8_all}
use Rattle.std.proofs.lemmas.Bool.{and_parts}
use Rattle.std.proofs.lemmas.Option.{same_Some}
use Rattle.std.proofs.lemmas.Slice.Eq.{bytes_eq-Decides}
use Rattle.std.specs.Prelude.{⊤, option_and_then}
use Rattle.tinyjson.proofs.Callers.{find_below, find_put}
use Rattle.tinyjson.specs.Index.{nth}
use Rattle.tinyjson.specs.Tree.{Tree, boolean, array, object, Items, no_items, item, Members, no_members, member, find}
use Rattle.tinyjson_number.specs.Numeral.{power_width}
use Rattle.tinyjson_grammar.specs.Soundness.{IsTree, IsSorted, AreItemsAt, AreMembersAt}
use Rattle.tinyjson_pointer.specs.Index.{index_of}
use Rattle.tinyjson_pointer.specs.Walk.{step, part_at, item_of}
use Rattle.tinyjson_schema_keywords.specs.Forms.{form_at, is_some_item}
use Rattle.tinyjson_schema_keywords.specs.References.{form_in, form_after, is_schema_form}
use Rattle.tinyjson_schema_keywords.specs.declared.keyword.Form.{Form}
use Rattle.tinyjson_schema_keywords.specs.declared.keyword.Form.TheVariants as form
use Rattle.tinyjson_schema_bundle.specs.Bundles.{Leads, pointed, pointed_among, pointed_list, pointed_map, pointed_items, pointed_members}
use Rattle.tinyjson_schema_bundle.specs.Bundles.{is_dynamic, at_key, at_index, base_in}
use Rattle.tinyjson_schema.specs.Circles.{leads}
use Rattle.tinyjson_schema.specs.Schemas.{fits, is_schema, keywords_fit, is_schema_list, is_schema_map, are_schemas, have_schemas}
use Rattle.tinyjson_schema_laws.specs.Scoped.{located, base_within}
use Rattle.tinyjson_schema_laws.proofs.Leading.{lead_by, lead_in, lead_among, lead_in_list, lead_in_map, lead_of_items, lead_of_members}
use Rattle.tinyjson_schema_laws.proofs.Pointed.{is_kept, picked, changed, found_pointed}

no_some : (v : Tree) → None ≡ Some v → ⊥
no_some v e = cc

-- ---- parts of sound trees

pub found_sound : (k : List ℕ) (ms : Members) (v : Tree) → AreMembersAt power_width ms → find k ms ≡ Some v → IsTree v
found_sound k no_members v h e = absurd (no_some v e)
found_sound k (member l u ms) v h e = by (found_sound k ms v h.2) (bytes_eq k l) e
  where
    by : (find k ms ≡ Some v → IsTree v) → (b : Bool) → cond b (Some u) (find k ms) ≡ Some v → IsTree v
    by later true e = subst IsTree (same_Some u v e) h.1
    by later false e = later e

pub nth_sound : (ts : Items) (i : ℕ) (v : Tree) → AreItemsAt power_width ts → nth ts i ≡ Some v → IsTree v
nth_sound no_items i v h e = absurd (no_some v e)
nth_sound (item t ts) zero v h e = subst IsTree (same_Some t v e) h.0
nth_sound (item t ts) (suc i) v h e = nth_sound ts i v h.1 e

-- ---- members that are among those of an object

pub first_found : (k : List ℕ) (w : Tree) (ms ns : Members)
    → ((l : List ℕ) (v : Tree) → find l (member k w ms) ≡ Some v → find l ns ≡ Some v) → find k ns ≡ Some w
first_found k w ms ns h = h k w (ap (λ b. cond b (Some w) (find k ms)) ((bytes_eq-Decides k k).1 refl))

pub rest_found : (k : List ℕ) (w : Tree) (ms ns : Members) → IsSorted (member k w ms)
    → ((l : List ℕ) (v : Tree) → find l (member k w ms) ≡ Some v → find l ns ≡ Some v)
    → (l : List ℕ) (v : Tree) → find l ms ≡ Some v → find l ns ≡ Some v
rest_found k w ms ns s h l v e = h l v (by (bytes_eq l k) refl)
  where
    by : (b : Bool) → bytes_eq l k ≡ b → cond b (Some w) (find l ms) ≡ Some v
    by true f = absurd (no_some v (sym (find_below k ms s.0 s.1) ∙ (ap (λ x. find x ms) (sym ((bytes_eq-Decides l k).0 f)) ∙ e)))
    by false f = e

-- ---- what leads to schemas

abbrev pub is_live : Form → Bool
is_live form.Schema = true
is_live form.Schemas = true
is_live form.SchemaMap = true
is_live form.PatternMap = true
is_live _ = false

dead_form : (f : Form) (k : List ℕ) → is_live f ≡ false → form_in f k ≡ form.Anything
dead_form form.Schema k e = absurd (true≢false e)
dead_form form.Schemas k e = absurd (true≢false e)
dead_form form.SchemaMap k e = absurd (true≢false e)
dead_form form.PatternMap k e = absurd (true≢false e)
dead_form _ k e = refl

dead_after : (ks : List (List ℕ)) (f : Form) → is_live f ≡ false → is_schema_form (form_after f ks) ≡ false
dead_after [] form.Schema e = e
dead_after [] _ e = refl
dead_after (k ∷ ks) f e = ap (λ g. is_schema_form (form_after g ks)) (dead_form f k e) ∙ dead_after ks form.Anything refl

and_then_none : {A B : Type 0} (g : A → Option B) (o : Option A) → ((v : A) → g v ≡ None) → option_and_then g o ≡ None
and_then_none g None h = refl
and_then_none g (Some v) h = h v

pub dead_located : (ks : List (List ℕ)) (f : Form) (b : List ℕ) (w : Tree) → is_live f ≡ false → located f b w ks ≡ None
dead_located [] form.Schema b w e = absurd (true≢false e)
dead_located [] _ b w e = refl
dead_located (k ∷ ks) f b w e = and_then_none (λ v. located (form_in f k) (base_within f b w) v ks) (step w k)
    (λ v. ap (λ g. located g (base_within f b w) v ks) (dead_form f k e) ∙ dead_located ks form.Anything (base_within f b w) v refl)

cond_none : {A : Type 0} (x : Bool) → cond {A = Option A} x None None ≡ None
cond_none true = refl
cond_none false = refl

-- ---- schemas of which the references lead on

module _ (on : List ℕ → Bool → Tree → Bool) where
  -- those in a value of the form do; b is the base URI around it
  abbrev pub Lead : Form → List ℕ → Tree → Type 0
  Lead form.Schema b w = lead_in on b w ≡ true
  Lead form.Schemas b w = lead_in_list on b w ≡ true
  Lead form.SchemaMap b w = lead_in_map on b w ≡ true
  Lead form.PatternMap b w = lead_in_map on b w ≡ true
  Lead _ b w = ⊤

  abbrev lead_of : List ℕ → List ℕ → Tree → Bool
  lead_of b k w = lead_by (form_at (encode_utf8_all k)) (on b (is_dynamic (encode_utf8_all k)) w)
      (lead_in on b w) (lead_in_list on b w) (lead_in_map on b w)

  pub lead_found : (b k : List ℕ) (ms : Members) (v : Tree) → lead_among on b ms ≡ true → find k ms ≡ Some v → lead_of b k v ≡ true
  lead_found b k no_members v h e = absurd (no_some v e)
  lead_found b k (member l u ms) v h e =
      by (lead_found b k ms v (and_parts (lead_of b l u) (lead_among on b ms) h).1) (bytes_eq k l) refl e
    where
      by : (find k ms ≡ Some v → lead_of b k v ≡ true) → (x : Bool) → bytes_eq k l ≡ x → cond x (Some u) (find k ms) ≡ Some v
          → lead_of b k v ≡ true
      by later true g e =
          let same : u ≡ v = same_Some u v e in
          let here : l ≡ k = sym ((bytes_eq-Decides k l).0 g) in
          subst (λ w. lead_of b k w ≡ true) same (subst (λ x. lead_of b x u ≡ true) here
          (and_parts (lead_of b l u) (lead_among on b ms) h).0)
      by later false g e = later e

  lead_from : (f : Form) (x : Bool) (b : List ℕ) (w : Tree)
      → lead_by f x (lead_in on b w) (lead_in_list on b w) (lead_in_map on b w) ≡ true → Lead f b w
  lead_from form.Schema x b w h = h
  lead_from form.Schemas x b w h = h
  lead_from form.SchemaMap x b w h = h
  lead_from form.PatternMap x b w h = h
  lead_from _ x b w h = tt

  pub lead_member : (b k : List ℕ) (ms : Members) (v : Tree) → lead_among on b ms ≡ true → find k ms ≡ Some v
      → Lead (form_at (encode_utf8_all k)) b v
  lead_member b k ms v h e = lead_from (form_at (encode_utf8_all k)) _ b v (lead_found b k ms v h e)

  pub lead_item : (b : List ℕ) (ts : Items) (i : ℕ) (v : Tree) → lead_of_items on b ts ≡ true → nth ts i ≡ Some v
      → lead_in on b v ≡ true
  lead_item b no_items i v h e = absurd (no_some v e)
  lead_item b (item t ts) zero v h e = subst (λ w. lead_in on b w ≡ true) (same_Some t v e)
      (and_parts (lead_in on b t) (lead_of_items on b ts) h).0
  lead_item b (item t ts) (suc i) v h e = lead_item b ts i v (and_parts (lead_in on b t) (lead_of_items on b ts) h).1 e

  pub lead_entry : (b k : List ℕ) (ms : Members) (v : Tree) → lead_of_members on b ms ≡ true → find k ms ≡ Some v
      → lead_in on b v ≡ true
  lead_entry b k no_members v h e = absurd (no_some v e)
  lead_entry b k (member l u ms) v h e =
      by (lead_entry b k ms v (and_parts (lead_in on b u) (lead_of_members on b ms) h).1) (bytes_eq k l) e
    where
      by : (find k ms ≡ Some v → lead_in on b v ≡ true) → (x : Bool) → cond x (Some u) (find k ms) ≡ Some v → lead_in on b v ≡ true
      by later true e = subst (λ w. lead_in on b w ≡ true) (same_Some u v e)
          (and_parts (lead_in on b u) (lead_of_members on b ms) h).0
      by later false e = later e

-- ---- schemas that can be applied in the root schema

module _ (root : Tree) where
  abbrev pub Fit : Form → Tree → Type 0
  Fit form.Schema w = (whole : Bool) × (is_schema root whole w ≡ true)
  Fit form.Schemas w = is_schema_list root w ≡ true
  Fit form.SchemaMap w = is_schema_map root w ≡ true
  Fit form.PatternMap w = is_schema_map root w ≡ true
  Fit form.Reference w = leads root w ≡ true
  Fit _ w = ⊤

  fit_from : (f : Form) (whole : Bool) (w : Tree) → fits root whole f w ≡ true → Fit f w
  fit_from form.Schema whole w h = (false, h)
  fit_from form.Schemas whole w h = h
  fit_from form.SchemaMap whole w h = h
  fit_from form.PatternMap whole w h = (and_parts _ (is_schema_map root w) h).1
  fit_from form.Reference whole w h = h
  fit_from _ whole w h = tt

  pub fit_member : (k : List ℕ) (ms : Members) (v : Tree) (whole : Bool) → keywords_fit root whole ms ≡ true → find k ms ≡ Some v
      → Fit (form_at (encode_utf8_all k)) v
  fit_member k no_members v whole h e = absurd (no_some v e)
  fit_member k (member l u ms) v whole h e = by (fit_member k ms v whole (and_parts _ (keywords_fit root whole ms) h).1)
      (bytes_eq k l) refl e
    where
      by : (find k ms ≡ Some v → Fit (form_at (encode_utf8_all k)) v) → (b : Bool) → bytes_eq k l ≡ b → cond b (Some u) (find k ms) ≡ Some v
          → Fit (form_at (encode_utf8_all k)) v
      by later true g e =
          let same : u ≡ v = same_Some u v e in
          let here : l ≡ k = sym ((bytes_eq-Decides k l).0 g) in
          subst (Fit (form_at (encode_utf8_all k))) same (subst (λ x. Fit (form_at (encode_utf8_all x)) u) here
          (fit_from (form_at (encode_utf8_all l)) whole u (and_parts _ (keywords_fit root whole ms) h).0))
      by later false g e = later e

  pub fit_item : (ts : Items) (i : ℕ) (v : Tree) → are_schemas root ts ≡ true → nth ts i ≡ Some v → Fit form.Schema v
  fit_item no_items i v h e = absurd (no_some v e)
  fit_item (item t ts) zero v h e = subst (Fit form.Schema) (same_Some t v e)
      (false, (and_parts (is_schema root false t) (are_schemas root ts) h).0)
  fit_item (item t ts) (suc i) v h e = fit_item ts i v (and_parts (is_schema root false t) (are_schemas root ts) h).1 e

  pub fit_entry : (k : List ℕ) (ms : Members) (v : Tree) → have_schemas root ms ≡ true → find k ms ≡ Some v → Fit form.Schema v
  fit_entry k no_members v h e = absurd (no_some v e)
  fit_entry k (member l u ms) v h e = by (fit_entry k ms v (and_parts (is_schema root false u) (have_schemas root ms) h).1) (bytes_eq k l) e
    where
      by : (find k ms ≡ Some v → Fit form.Schema v) → (b : Bool) → cond b (Some u) (find k ms) ≡ Some v → Fit form.Schema v
      by later true e = subst (Fit form.Schema) (same_Some u v e)
          (false, (and_parts (is_schema root false u) (have_schemas root ms) h).0)
      by later false e = later e

  module _ (on : List ℕ → Bool → Tree → Bool) (to : Leads) where
    -- what the form f is bundled to
    abbrev pub form_pointed : Form → List ℕ → List ℕ → Tree → Tree
    form_pointed form.Schema b p w = pointed to b p w
    form_pointed form.Schemas b p w = pointed_list to b p w
    form_pointed form.SchemaMap b p w = pointed_map to b p w
    form_pointed form.PatternMap b p w = pointed_map to b p w
    form_pointed _ b p w = w

    -- the second schema is the first one bundled, which can be applied; the base URI in it is b
    pub record IsBundled (b : List ℕ) (s t : Tree) : Type 0 where
      pub around : List ℕ
      pub place : List ℕ
      pub whole : Bool
      pub based : base_in around s ≡ b
      pub made : t ≡ pointed to around place s
      pub fit : is_schema root whole t ≡ true
      pub sound : IsTree s
      pub leading : lead_in on around s ≡ true

    abbrev pub AreMatched : Option Tree → Option (List ℕ × Tree) → Type 0
    AreMatched None None = ⊤
    AreMatched (Some t) (Some x) = IsBundled x.0 x.1 t
    AreMatched _ _ = ⊥

    -- the part to which the tokens lead, if they lead to a schema
    abbrev pub led : Form → List (List ℕ) → Option Tree → Option Tree
    led f ks o = cond (is_schema_form (form_after f ks)) (option_and_then (λ u. part_at u ks) o) None

    abbrev Leading : List (List ℕ) → Form → Type 0
    Leading ks f = (b p : List ℕ) (w : Tree) → IsTree w → Lead on f b w → Fit f (form_pointed f b p w)
        → AreMatched (led f ks (Some (form_pointed f b p w))) (located f b w ks)

    next : (ks : List (List ℕ)) (f : Form) → Leading ks f → (b q : List ℕ) (o : Option Tree) (x : Option Tree)
        → x ≡ option_map (form_pointed f b q) o → ((v : Tree) → o ≡ Some v → IsTree v) → ((v : Tree) → o ≡ Some v → Lead on f b v)
        → ((v : Tree) → x ≡ Some v → Fit f v)
        → AreMatched (led f ks x) (option_and_then (λ v. located f b v ks) o)
    next ks f ih b q None x e sound lead fit = subst (λ y. AreMatched y None) (sym (ap (led f ks) e
        ∙ cond_none (is_schema_form (form_after f ks)))) tt
    next ks f ih b q (Some v) x e sound lead fit = subst (λ y. AreMatched (led f ks y) (located f b v ks)) (sym e)
        (ih b q v (sound v refl) (lead v refl) (fit (form_pointed f b q v) e))

    dead : (ks : List (List ℕ)) (f : Form) (b : List ℕ) (o x : Option Tree) → is_live f ≡ false
        → AreMatched (led f ks x) (option_and_then (λ v. located f b v ks) o)
    dead ks f b o x e = subst (λ y. AreMatched y (option_and_then (λ v. located f b v ks) o))
        (sym (ap (λ c. cond c (option_and_then (λ u. part_at u ks) x) None) (dead_after ks f e)))
        (subst (AreMatched None) (sym (and_then_none (λ v. located f b v ks) o (λ v. dead_located ks f b v e))) tt)

    gone : (ks : List (List ℕ)) (f : Form) (b : List ℕ) (w x : Tree) → is_live f ≡ false → AreMatched (led f ks (Some x)) (located f b w ks)
    gone ks f b w x e = subst (λ y. AreMatched y (located f b w ks)) (sym (ap (λ c. cond c (part_at x ks) None) (dead_after ks f e)))
        (subst (AreMatched None) (sym (dead_located ks f b w e)) tt)

    pub live_kept : (f : Form) → is_live f ≡ true → is_kept f ≡ true
    live_kept form.Base e = e
    live_kept form.Anchor e = e
    live_kept _ e = refl

    pub live_changed : (f : Form) (b q : List ℕ) (w r : Tree) → is_live f ≡ true
        → picked f w r (pointed to b q w) (pointed_list to b q w) (pointed_map to b q w)
        ≡ form_pointed f b q w
    live_changed form.Reference b q w r e = absurd (true≢false (sym e))
    live_changed _ b q w r e = refl

    pub map_same : (g h : Tree → Tree) (o : Option Tree) → ((v : Tree) → g v ≡ h v) → option_map g o ≡ option_map h o
    map_same g h o e = λ i. option_map (λ v. e v i) o

    pub nth_pointed : (b p : List ℕ) (j : ℕ) (ts : Items) (i : ℕ) → (q : List ℕ) × (nth (pointed_items to b p j ts) i
        ≡ option_map (pointed to b q) (nth ts i))
    nth_pointed b p j no_items i = (p, refl)
    nth_pointed b p j (item t ts) zero = (at_index p j, refl)
    nth_pointed b p j (item t ts) (suc i) = nth_pointed b p (suc j) ts i

    pub find_pointed : (b p k : List ℕ) (ms : Members) → find k (pointed_members to b p ms)
        ≡ option_map (pointed to b (at_key p k)) (find k ms)
    find_pointed b p k no_members = refl
    find_pointed b p k (member l u ms) = find_put k l (pointed to b (at_key p l) u) (pointed_members to b p ms)
        ∙ by (find_pointed b p k ms) (bytes_eq k l) refl
      where
        by : find k (pointed_members to b p ms) ≡ option_map (pointed to b (at_key p k)) (find k ms) → (c : Bool) → bytes_eq k l ≡ c
            → cond c (Some (pointed to b (at_key p l) u)) (find k (pointed_members to b p ms))
            ≡ option_map (pointed to b (at_key p k)) (cond c (Some u) (find k ms))
        by later true e = ap (λ x. Some (pointed to b (at_key p x) u)) (sym ((bytes_eq-Decides k l).0 e))
        by later false e = later

    no_step : (f g : Form) (ks : List (List ℕ)) (b : List ℕ) → AreMatched (led f ks None) None
    no_step f g ks b = subst (λ y. AreMatched y None) (sym (cond_none (is_schema_form (form_after f ks)))) tt

    -- the part x at a token of a schema, if it is there as in the bundled schema
    pub from_found : (k : List ℕ) (ks : List (List ℕ)) (b p : List ℕ) (ms : Members) (x : Option Tree)
        → x ≡ find k (pointed_among to b p ms) → Leading ks (form_at (encode_utf8_all k)) → AreMembersAt power_width ms
        → lead_among on b ms ≡ true → ((v : Tree) → x ≡ Some v → Fit (form_at (encode_utf8_all k)) v)
        → AreMatched (led (form_at (encode_utf8_all k)) ks x)
        (option_and_then (λ v. located (form_at (encode_utf8_all k)) b v ks) (find k ms))
    from_found k ks b p ms x same ih sound lead fit = by (is_live (form_at (encode_utf8_all k))) refl
      where
        by : (l : Bool) → is_live (form_at (encode_utf8_all k)) ≡ l
            → AreMatched (led (form_at (encode_utf8_all k)) ks x)
            (option_and_then (λ v. located (form_at (encode_utf8_all k)) b v ks) (find k ms))
        by false e = dead ks (form_at (encode_utf8_all k)) b (find k ms) x e
        by true e = next ks (form_at (encode_utf8_all k)) ih b (at_key p k) (find k ms) x
            (same ∙ (found_pointed to b p k ms (live_kept (form_at (encode_utf8_all k)) e)
            ∙ map_same (changed to b p k) (form_pointed (form_at (encode_utf8_all k)) b (at_key p k)) (find k ms)
            (λ v. live_changed (form_at (encode_utf8_all k)) b (at_key p k) v _ e)))
            (λ v. found_sound k ms v sound) (λ v. lead_member on b k ms v lead) fit

    in_schema : (k : List ℕ) (ks : List (List ℕ)) (b p : List ℕ) (ms : Members) (whole : Bool)
        → Leading ks (form_at (encode_utf8_all k)) → AreMembersAt power_width ms → lead_among on b ms ≡ true
        → keywords_fit root whole (pointed_among to b p ms) ≡ true
        → AreMatched (led (form_at (encode_utf8_all k)) ks (find k (pointed_among to b p ms)))
        (option_and_then (λ v. located (form_at (encode_utf8_all k)) b v ks) (find k ms))
    in_schema k ks b p ms whole ih sound lead fit = from_found k ks b p ms (find k (pointed_among to b p ms)) refl ih sound lead
        (λ v. fit_member k (pointed_among to b p ms) v whole fit)

    in_list : (k : List ℕ) (ks : List (List ℕ)) (b p : List ℕ) (ts : Items) (o : Option ℕ) → Leading ks form.Schema
        → AreItemsAt power_width ts
        → lead_of_items on b ts ≡ true
        → are_schemas root (pointed_items to b p 0 ts) ≡ true
        → AreMatched (led form.Schema ks (item_of (pointed_items to b p 0 ts) o)) (option_and_then (λ v. located form.Schema b v ks)
        (item_of ts o))
    in_list k ks b p ts None ih sound lead fit = no_step form.Schema form.Schema ks b
    in_list k ks b p ts (Some i) ih sound lead fit =
        let n = nth_pointed b p 0 ts i in
        next ks form.Schema ih b n.0 (nth ts i) (nth (pointed_items to b p 0 ts) i) n.1 (λ v. nth_sound ts i v sound)
        (λ v. lead_item on b ts i v lead)
        (λ v. fit_item (pointed_items to b p 0 ts) i v fit)

    in_map : (k : List ℕ) (ks : List (List ℕ)) (b p : List ℕ) (ms : Members) → Leading ks form.Schema → AreMembersAt power_width ms
        → lead_of_members on b ms ≡ true
        → have_schemas root (pointed_members to b p ms) ≡ true
        → AreMatched (led form.Schema ks (find k (pointed_members to b p ms))) (option_and_then (λ v. located form.Schema b v ks)
        (find k ms))
    in_map k ks b p ms ih sound lead fit = next ks form.Schema ih b (at_key p k) (find k ms) (find k (pointed_members to b p ms))
        (find_pointed b p k ms) (λ v. found_sound k ms v sound) (λ v. lead_entry on b k ms v lead) (λ v. fit_entry k
        (pointed_members to b p ms) v fit)

    pub walked : (ks : List (List ℕ)) (f : Form) (b p : List ℕ) (w : Tree) → IsTree w → Lead on f b w → Fit f (form_pointed f b p w)
        → AreMatched (led f ks (Some (form_pointed f b p w))) (located f b w ks)
    walked [] form.Schema b p w sound lead fit = record {
      around = b;
      place = p;
      whole = fit.0;
      based = refl;
      made = refl;
      fit = fit.1;
      sound = sound;
      leading = lead;
    }
    walked [] _ b p w sound lead fit = tt
    walked (k ∷ ks) form.Schema b p (object ms) sound lead fit =
        in_schema k ks (base_in b (object ms)) p ms fit.0 (walked ks (form_at (encode_utf8_all k))) sound.0 lead fit.1
    walked (k ∷ ks) form.Schema b p (boolean x) sound lead fit = no_step (form_at (encode_utf8_all k)) form.Schema ks b
    walked (k ∷ ks) form.Schema b p _ sound lead fit = absurd (true≢false (sym fit.1))
    walked (k ∷ ks) form.Schemas b p (array ts) sound lead fit = in_list k ks b p ts (index_of k) (walked ks form.Schema) sound lead
        (and_parts (is_some_item (pointed_items to b p 0 ts)) (are_schemas root (pointed_items to b p 0 ts)) fit).1
    walked (k ∷ ks) form.Schemas b p _ sound lead fit = absurd (true≢false (sym fit))
    walked (k ∷ ks) form.SchemaMap b p (object ms) sound lead fit = in_map k ks b p ms (walked ks form.Schema) sound.0 lead fit
    walked (k ∷ ks) form.SchemaMap b p _ sound lead fit = absurd (true≢false (sym fit))
    walked (k ∷ ks) form.PatternMap b p (object ms) sound lead fit = in_map k ks b p ms (walked ks form.Schema) sound.0 lead fit
    walked (k ∷ ks) form.PatternMap b p _ sound lead fit = absurd (true≢false (sym fit))
    walked (k ∷ ks) f b p w sound lead fit = gone (k ∷ ks) f b w (form_pointed f b p w) refl
