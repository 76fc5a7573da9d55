-- The bundled schema has the same keywords as the schema, with bundled subschemas.
use Rattle.std.proofs.Common.{◌≡◌, ℕ, suc, Bool, true, false, List, Option, Some, None}
use Rattle.std.proofs.Common.{cond, refl, sym, ap, ◌∙◌, true≢false, bytes_eq, subst, option_map, encode_utf8_all}
use Rattle.std.proofs.lemmas.Slice.Eq.{bytes_eq-Decides}
use Rattle.std.specs.Prelude.{⊤}
use lib.Utf8.{encode}
use Rattle.tinyjson.proofs.Callers.{find_below, find_put}
use Rattle.tinyjson.specs.Index.{nth}
use Rattle.tinyjson.specs.Tree.{Tree, array, object, Items, no_items, item, Members, no_members, member, find, put}
use Rattle.tinyjson_grammar.specs.Soundness.{IsBelow, IsSorted}
use Rattle.tinyjson_grammar.specs.Tree.{put_at}
use Rattle.tinyjson_schema_keywords.specs.Applied.{items_in, members_in}
use Rattle.tinyjson_schema_keywords.specs.Forms.{form_of, form_at}
use Rattle.tinyjson_schema_keywords.specs.Names.{name}
use Rattle.tinyjson_schema_keywords.specs.declared.keyword.Form.{Form}
use Rattle.tinyjson_schema_keywords.specs.declared.keyword.Form.TheVariants as form
use Rattle.tinyjson_schema_keywords.specs.declared.keyword.Keyword.{Keyword}
use Rattle.tinyjson_schema_keywords.specs.declared.keyword.Keyword.TheVariants as kw
use Rattle.tinyjson_schema_bundle.specs.Bundles.{Leads, pointed, pointed_among, pointed_list, pointed_map, pointed_items, pointed_members}
use Rattle.tinyjson_schema_bundle.specs.Bundles.{kept_by, kept_id, kept_anchor, pointing, put_some, is_dynamic, at_key, at_index}
use Rattle.tinyjson_schema_laws.proofs.Bisimilar.{AllRel, MapRel, ValueRel}

-- ---- keys in order

put_front : (k : List ℕ) (t : Tree) (ms : Members) → IsBelow k ms → put k t ms ≡ member k t ms
put_front k t no_members h = refl
put_front k t (member l u ms) h = ap (λ o. put_at o k t l u ms (put k t ms)) h

module _ (to : Leads) (b p : List ℕ) where
  below_pointed : (k : List ℕ) (ms : Members) → IsSorted ms → IsBelow k ms → IsBelow k (pointed_members to b p ms)
  below_pointed k no_members s h = tt
  below_pointed k (member l u ms) s h = subst (IsBelow k)
      (sym (put_front l (pointed to b (at_key p l) u) (pointed_members to b p ms) (below_pointed l ms s.1 s.0))) h

  pub members_pointed : (l : List ℕ) (u : Tree) (ms : Members) → IsSorted (member l u ms)
      → pointed_members to b p (member l u ms) ≡ member l (pointed to b (at_key p l) u) (pointed_members to b p ms)
  members_pointed l u ms s = put_front l (pointed to b (at_key p l) u) (pointed_members to b p ms) (below_pointed l ms s.1 s.0)

-- ---- what is found in a bundled schema

-- the values of `$id` and of names are left out or changed, and no rule asks for them
abbrev pub is_kept : Form → Bool
is_kept form.Base = false
is_kept form.Anchor = false
is_kept _ = true

abbrev pub picked : Form → Tree → Tree → Tree → Tree → Tree → Tree
picked form.Reference w r o l m = r
picked form.Schema w r o l m = o
picked form.Schemas w r o l m = l
picked form.SchemaMap w r o l m = m
picked form.PatternMap w r o l m = m
picked _ w r o l m = w

kept_picked : (f : Form) (w : Tree) (i a : Option Tree) (r o l m : Tree) → is_kept f ≡ true
    → kept_by f w i a r o l m ≡ Some (picked f w r o l m)
kept_picked form.Base w i a r o l m e = absurd (true≢false (sym e))
kept_picked form.Anchor w i a r o l m e = absurd (true≢false (sym e))
kept_picked _ w i a r o l m e = refl

module _ (to : Leads) (b p : List ℕ) where
  -- the value of the keyword with the name
  abbrev pub changed : List ℕ → Tree → Tree
  changed k w = picked (form_at (encode_utf8_all k)) w (pointing to (is_dynamic (encode_utf8_all k)) b w) (pointed to b (at_key p k) w)
      (pointed_list to b (at_key p k) w) (pointed_map to b (at_key p k) w)

  abbrev kept : List ℕ → Tree → Option Tree
  kept k w = kept_by (form_at (encode_utf8_all k)) w (kept_id to.0 b p w) (kept_anchor to.0 b p w)
      (pointing to (is_dynamic (encode_utf8_all k)) b w) (pointed to b (at_key p k) w) (pointed_list to b (at_key p k) w)
      (pointed_map to b (at_key p k) w)

  put_past : (n k : List ℕ) (o : Option Tree) (ms : Members) → bytes_eq n k ≡ false → find n (put_some k o ms) ≡ find n ms
  put_past n k None ms e = refl
  put_past n k (Some v) ms e = find_put n k v ms ∙ ap (λ c. cond c (Some v) (find n ms)) e

  put_here : (n k : List ℕ) (o : Option Tree) (v : Tree) (ms : Members) → o ≡ Some v → bytes_eq n k ≡ true
      → find n (put_some k o ms) ≡ Some v
  put_here n k o v ms h e = ap (λ x. find n (put_some k x ms)) h ∙ (find_put n k v ms ∙ ap (λ c. cond c (Some v) (find n ms)) e)

  pub found_pointed : (n : List ℕ) (ms : Members) → is_kept (form_at (encode_utf8_all n)) ≡ true
      → find n (pointed_among to b p ms) ≡ option_map (changed n) (find n ms)
  found_pointed n no_members h = refl
  found_pointed n (member k w ms) h = by (found_pointed n ms h) (bytes_eq n k) refl
    where
      by : find n (pointed_among to b p ms) ≡ option_map (changed n) (find n ms) → (c : Bool) → bytes_eq n k ≡ c
          → find n (put_some k (kept k w) (pointed_among to b p ms)) ≡ option_map (changed n) (cond c (Some w) (find n ms))
      by later true e =
          let here : n ≡ k = (bytes_eq-Decides n k).0 e in
          put_here n k (kept k w) (changed n w) (pointed_among to b p ms)
          (ap (λ x. kept x w) (sym here) ∙ kept_picked (form_at (encode_utf8_all n)) w _ _ _ _ _ _ h) e
      by later false e = put_past n k (kept k w) (pointed_among to b p ms) e ∙ later

-- ---- the values of a keyword

pub form_named : (k : Keyword) → form_at (encode_utf8_all (name k)) ≡ form_of k
unfolding encode
form_named kw.Schema = refl
form_named _ = refl

-- P relates the subschemas to those of the bundled schema
module _ (P : Tree → Tree → Type 0) (to : Leads) (b : List ℕ) where
  items_same : (p : List ℕ) (i : ℕ) (ts : Items)
      → ((j : ℕ) (r v : Tree) → nth ts j ≡ Some r → nth (pointed_items to b p i ts) j ≡ Some v → P r v)
      → AllRel P ts (pointed_items to b p i ts)
  items_same p i no_items h = tt
  items_same p i (item t ts) h = (h 0 t (pointed to b (at_index p i) t) refl refl, items_same p (suc i) ts (λ j. h (suc j)))

  some_none : (r : Tree) → Some r ≡ None → ⊥
  some_none r e = cc

  members_same : (p : List ℕ) (ms : Members) → IsSorted ms
      → ((k : List ℕ) (r v : Tree) → find k ms ≡ Some r → find k (pointed_members to b p ms) ≡ Some v → P r v)
      → MapRel P ms (pointed_members to b p ms)
  members_same p no_members s h = tt
  members_same p (member k u ms) s h = subst (MapRel P (member k u ms)) (sym (members_pointed to b p k u ms s)) (
    refl,
    h k u (pointed to b (at_key p k) u) (here (Some u) (find k ms))
        (find_put k k (pointed to b (at_key p k) u) (pointed_members to b p ms) ∙ here (Some (pointed to b (at_key p k) u)) _),
    members_same p ms s.1 (λ l r v e f. later l r v e f (bytes_eq l k) refl),
  )
    where
      here : (x y : Option Tree) → cond (bytes_eq k k) x y ≡ x
      here x y = ap (λ t. cond t x y) ((bytes_eq-Decides k k).1 refl)

      later : (l : List ℕ) (r v : Tree) → find l ms ≡ Some r → find l (pointed_members to b p ms) ≡ Some v → (x : Bool)
          → bytes_eq l k ≡ x → P r v
      later l r v e f true g = absurd (some_none r (sym e ∙ (ap (λ x. find x ms) ((bytes_eq-Decides l k).0 g) ∙ find_below k ms s.0 s.1)))
      later l r v e f false g = h l r v (ap (λ t. cond t (Some u) (find l ms)) g ∙ e)
          (find_put l k (pointed to b (at_key p k) u) (pointed_members to b p ms)
          ∙ (ap (λ t. cond t (Some (pointed to b (at_key p k) u)) (find l (pointed_members to b p ms))) g ∙ f))

  -- the subschemas in a value of the form, and in the bundled value
  abbrev pub AreParts : Form → Tree → Tree → Type 0
  AreParts form.Schema w x = P w x
  AreParts form.Schemas w x = (j : ℕ) (r v : Tree) → nth (items_in w) j ≡ Some r → nth (items_in x) j ≡ Some v → P r v
  AreParts form.SchemaMap w x = IsSorted (members_in w)
      × ((k : List ℕ) (r v : Tree) → find k (members_in w) ≡ Some r → find k (members_in x) ≡ Some v → P r v)
  AreParts form.PatternMap w x = IsSorted (members_in w)
      × ((k : List ℕ) (r v : Tree) → find k (members_in w) ≡ Some r → find k (members_in x) ≡ Some v → P r v)
  AreParts _ w x = ⊤

  list_same : (p : List ℕ) (w : Tree) → AreParts form.Schemas w (pointed_list to b p w)
      → AllRel P (items_in w) (items_in (pointed_list to b p w))
  list_same p (array ts) h = items_same p 0 ts h
  list_same p _ h = tt

  map_same : (p : List ℕ) (w : Tree) → AreParts form.SchemaMap w (pointed_map to b p w)
      → MapRel P (members_in w) (members_in (pointed_map to b p w))
  map_same p (object ms) h = members_same p ms h.0 h.1
  map_same p _ h = tt

  abbrev bundled_as : Form → List ℕ → Tree → Tree → Tree
  bundled_as f p r w = picked f w r (pointed to b p w) (pointed_list to b p w) (pointed_map to b p w)

  some_same : (f : Form) (p : List ℕ) (w r : Tree) → AreParts f w (bundled_as f p r w)
      → ValueRel P f (Some w) (Some (bundled_as f p r w))
  some_same form.Base p w r h = tt
  some_same form.Anchor p w r h = tt
  some_same form.Reference p w r h = tt
  some_same form.Schema p w r h = h
  some_same form.Schemas p w r h = list_same p w h
  some_same form.SchemaMap p w r h = map_same p w h
  some_same form.PatternMap p w r h = map_same p w h
  some_same _ p w r h = refl

  none_same : (f : Form) → ValueRel P f None None
  none_same form.Base = tt
  none_same form.Anchor = tt
  none_same form.Reference = tt
  none_same form.Schema = tt
  none_same form.Schemas = tt
  none_same form.SchemaMap = tt
  none_same form.PatternMap = tt
  none_same _ = refl

  opt_same : (f : Form) (p : List ℕ) (o : Option Tree) (r : Tree → Tree) → ((w : Tree) → o ≡ Some w → AreParts f w (bundled_as f p (r w) w))
      → ValueRel P f o (option_map (λ w. bundled_as f p (r w) w) o)
  opt_same f p None r h = none_same f
  opt_same f p (Some w) r h = some_same f p w (r w) (h w refl)

  dead_same : (f : Form) (o p : Option Tree) → is_kept f ≡ false → ValueRel P f o p
  dead_same form.Base o p e = tt
  dead_same form.Anchor o p e = tt
  dead_same _ o p e = absurd (true≢false e)

  abbrev referring : Keyword → Tree → Tree
  referring k w = pointing to (is_dynamic (encode_utf8_all (name k))) b w

  pub keyword_same : (p : List ℕ) (ms : Members) (k : Keyword)
      → ((w : Tree) → find (name k) ms ≡ Some w → AreParts (form_of k) w (bundled_as (form_of k) (at_key p (name k)) (referring k w) w))
      → ValueRel P (form_of k) (find (name k) ms) (find (name k) (pointed_among to b p ms))
  keyword_same p ms k h = by (is_kept (form_of k)) refl
    where
      by : (x : Bool) → is_kept (form_of k) ≡ x → ValueRel P (form_of k) (find (name k) ms) (find (name k) (pointed_among to b p ms))
      by false e = dead_same (form_of k) _ _ e
      by true e = subst (ValueRel P (form_of k) (find (name k) ms)) (sym (found_pointed to b p (name k) ms (ap is_kept
          (form_named k) ∙ e)
          ∙ ap (λ f. option_map (λ w. bundled_as f (at_key p (name k)) (referring k w) w) (find (name k) ms)) (form_named k)))
          (opt_same (form_of k) (at_key p (name k)) (find (name k) ms) (referring k) h)

  pub no_schema_same : (f : Form) → ValueRel P f None None
  no_schema_same f = none_same f
