-- No schema of the bundled document has a plain name.
use Rattle.std.proofs.Common.{◌≡◌, ℕ, suc, Bool, true, false, ◌&&◌, List, [], ◌∷◌, ◌++◌, Option, Some, None}
use Rattle.std.proofs.Common.{cond, refl, sym, ap, ◌∙◌, true≢false, encode_utf8_all, bytes_eq}
use Rattle.std.proofs.lemmas.Slice.Eq.{bytes_eq-Decides}
use Rattle.std.proofs.lemmas.Str.{IsUtf8-append, IsUtf8-nil, IsUtf8-from_is_utf8, encodes-chars}
use Rattle.std.specs.Prelude.{⊤}
use Rattle.std.specs.Str.{IsUtf8, is_utf8, chars}
use Rattle.std.specs.declared.cmp.Ordering.{Ordering}
use Rattle.std.specs.declared.cmp.Ordering.TheVariants.{Less, Equal, Greater}
use lib.Utf8.{encode}
use Rattle.tinyjson.specs.Tree.{Tree, string, array, object, Items, no_items, item, Members, no_members, member, put}
use Rattle.tinyjson_number.specs.Numeral.{power_width}
use Rattle.tinyjson_grammar.specs.Soundness.{IsTree, AreItemsAt, AreMembersAt}
use Rattle.tinyjson_grammar.specs.Tree.{key_cmp, put_at}
use Rattle.text_uri.specs.Resolving.{resolved}
use Rattle.tinyjson_schema_keywords.specs.Anchors.{Named, anchors_in, anchors_among, anchors_by, own_anchors, anchored, is_plain_name}
use Rattle.tinyjson_schema_keywords.specs.Anchors.{is_name_start, is_name_part, are_name_parts}
use Rattle.tinyjson_schema_keywords.specs.Applied.{schema_at}
use Rattle.tinyjson_schema_keywords.specs.Forms.{form_at, form_by}
use Rattle.tinyjson_schema_keywords.specs.Names.{name}
use Rattle.tinyjson_schema_keywords.specs.Subschemas.{InSchema, members_by, schema_members, members_among, members_in_list, members_in_map}
use Rattle.tinyjson_schema_keywords.specs.Subschemas.{members_of_items, members_of_entries}
use Rattle.tinyjson_schema_keywords.specs.declared.keyword.Form.{Form}
use Rattle.tinyjson_schema_keywords.specs.declared.keyword.Form.TheVariants as form
use Rattle.tinyjson_schema_keywords.specs.declared.keyword.Keyword.TheVariants as kw
use Rattle.tinyjson_schema_bundle.specs.Bundles as bundle
use Rattle.tinyjson_schema_bundle.specs.Bundles.{Leads, with_name, base_by, base_in, is_dynamic, at_key, at_index}
use Rattle.tinyjson_schema_bundle.specs.Bundles.{put_some, kept_by, kept_id}
use Rattle.tinyjson_schema_bundle.specs.Bundles.{kept_anchor, is_own_anchor, string_of, pointing, pointed, pointed_among, pointed_list}
use Rattle.tinyjson_schema_bundle.specs.Bundles.{pointed_map, pointed_items, pointed_members}
use Rattle.tinyjson_schema_laws.proofs.Resolved.{resolved_text, cut_text}
use Rattle.tinyjson_schema_laws.proofs.Walk.{found_sound}

-- ---- texts that are no plain names

no_parts : (b n : List ℕ) → are_name_parts (b ++ 35 ∷ n) ≡ false
no_parts [] n = refl
no_parts (c ∷ b) n = by (no_parts b n) (is_name_part c)
  where
    by : are_name_parts (b ++ 35 ∷ n) ≡ false → (x : Bool) → (x && are_name_parts (b ++ 35 ∷ n)) ≡ false
    by later true = later
    by later false = refl

no_name : (b n : List ℕ) → is_plain_name (with_name b n) ≡ false
no_name [] n = refl
no_name (c ∷ b) n = by (is_name_start c)
  where
    by : (x : Bool) → (x && are_name_parts (b ++ 35 ∷ n)) ≡ false
    by true = no_parts b n
    by false = refl

sign_text : IsUtf8 (35 ∷ [])
unfolding is_utf8 chars encode
sign_text = IsUtf8-from_is_utf8 (35 ∷ []) refl

named_text : (b n : List ℕ) → IsUtf8 b → IsUtf8 n → IsUtf8 (with_name b n)
named_text b n u v = IsUtf8-append b (35 ∷ n) u (IsUtf8-append (35 ∷ []) n sign_text v)

-- ---- members that give no plain name

abbrev pub NoName : Form → Tree → Type 0
NoName form.Anchor (string cs) = is_plain_name (encode_utf8_all cs) ≡ false
NoName _ w = ⊤

abbrev pub Unnamed : List InSchema → Type 0
Unnamed [] = ⊤
Unnamed (m ∷ ms) = NoName (form_by m.2) m.3 × Unnamed ms

both : (xs ys : List InSchema) → Unnamed xs → Unnamed ys → Unnamed (xs ++ ys)
both [] ys g h = h
both (x ∷ xs) ys g h = (g.0, both xs ys g.1 h)

not_named : (xs ys : List Named) (ds : List ℕ) → anchored xs ds ≡ None → anchored ys ds ≡ None → anchored (xs ++ ys) ds ≡ None
not_named [] ys ds g h = h
not_named (x ∷ xs) ys ds g h = by (λ e. not_named xs ys ds e h) (bytes_eq x.0 ds) g
  where
    by : (anchored xs ds ≡ None → anchored (xs ++ ys) ds ≡ None) → (b : Bool) → cond b (Some x.1) (anchored xs ds) ≡ None
        → cond b (Some x.1) (anchored (xs ++ ys) ds) ≡ None
    by later true e = e
    by later false e = later e

pub none_anchored : (ms : List InSchema) (ds : List ℕ) → Unnamed ms → is_plain_name ds ≡ true → anchored (anchors_among ms) ds ≡ None
none_anchored [] ds u e = refl
none_anchored (m ∷ ms) ds u e = not_named (anchors_by (form_by m.2) (own_anchors m.0 m.3)) (anchors_among ms) ds
    (by (form_by m.2) m.3 u.0) (none_anchored ms ds u.1 e)
  where
    own : (cs : List ℕ) (x : Bool) → bytes_eq (encode_utf8_all cs) ds ≡ x → is_plain_name (encode_utf8_all cs) ≡ false
        → cond x (Some m.0) None ≡ None
    own cs true f h = absurd (true≢false (sym e ∙ (ap is_plain_name (sym ((bytes_eq-Decides (encode_utf8_all cs) ds).0 f)) ∙ h)))
    own cs false f h = refl

    by : (f : Form) (w : Tree) → NoName f w → anchored (anchors_by f (own_anchors m.0 w)) ds ≡ None
    by form.Anchor (string cs) h = own cs (bytes_eq (encode_utf8_all cs) ds) refl h
    by form.Anchor _ h = refl
    by _ w h = refl

-- the members in a member's value, and the member
abbrev pub Inner : Form → Tree → Type 0
Inner f w = NoName f w × Unnamed (members_by f (schema_members w) (members_in_list w) (members_in_map w))

abbrev pub Whole : List ℕ → Tree → Type 0
Whole k w = Inner (form_at (encode_utf8_all k)) w

pub put_unnamed : (s : Tree) (k : List ℕ) (w : Tree) (ms : Members) → Whole k w → Unnamed (members_among s ms)
    → Unnamed (members_among s (put k w ms))
put_unnamed s k w no_members h g = (
  h.0,
  both (members_by (form_at (encode_utf8_all k)) (schema_members w) (members_in_list w)
      (members_in_map w)) [] h.1 tt,
)
put_unnamed s k w (member l u ms) h g = by (key_cmp k l) (put_unnamed s k w ms h)
  where
    one : (ns : Members) → Unnamed (members_among s ns) → Unnamed (members_among s (member k w ns))
    one ns n = (
      h.0,
      both (members_by (form_at (encode_utf8_all k)) (schema_members w) (members_in_list w)
          (members_in_map w)) (members_among s ns) h.1 n,
    )

    after : (xs ys : List InSchema) → Unnamed (xs ++ ys) → Unnamed xs × Unnamed ys
    after [] ys n = (tt, n)
    after (x ∷ xs) ys n = let r = after xs ys n.1 in ((n.0, r.0), r.1)

    parts : Unnamed (members_by (form_at (encode_utf8_all l)) (schema_members u) (members_in_list u) (members_in_map u))
        × Unnamed (members_among s ms)
    parts = after (members_by (form_at (encode_utf8_all l)) (schema_members u) (members_in_list u) (members_in_map u))
        (members_among s ms) g.1

    by : (o : Ordering) → (Unnamed (members_among s ms) → Unnamed (members_among s (put k w ms)))
        → Unnamed (members_among s (put_at o k w l u ms (put k w ms)))
    by Less more = one (member l u ms) g
    by Equal more = one ms parts.1
    by Greater more = (
      g.0,
      both (members_by (form_at (encode_utf8_all l)) (schema_members u) (members_in_list u) (members_in_map u))
          (members_among s (put k w ms)) parts.0 (more parts.1),
    )

pub entry_unnamed : (k : List ℕ) (w : Tree) (ms : Members) → Unnamed (schema_members w) → Unnamed (members_of_entries ms)
    → Unnamed (members_of_entries (put k w ms))
entry_unnamed k w no_members h g = both (schema_members w) [] h tt
entry_unnamed k w (member l u ms) h g = by (key_cmp k l) (entry_unnamed k w ms h)
  where
    after : (xs ys : List InSchema) → Unnamed (xs ++ ys) → Unnamed xs × Unnamed ys
    after [] ys n = (tt, n)
    after (x ∷ xs) ys n = let r = after xs ys n.1 in ((n.0, r.0), r.1)

    parts : Unnamed (schema_members u) × Unnamed (members_of_entries ms)
    parts = after (schema_members u) (members_of_entries ms) g

    by : (o : Ordering) → (Unnamed (members_of_entries ms) → Unnamed (members_of_entries (put k w ms)))
        → Unnamed (members_of_entries (put_at o k w l u ms (put k w ms)))
    by Less more = both (schema_members w) (members_of_entries (member l u ms)) h g
    by Equal more = both (schema_members w) (members_of_entries ms) h parts.1
    by Greater more = both (schema_members u) (members_of_entries (put k w ms)) parts.0 (more parts.1)

-- ---- bases are texts

tree_text : (cs : List ℕ) → IsTree (string cs) → IsUtf8 (encode_utf8_all cs)
tree_text cs h = (cs, (h, refl))

pub text_in : (b : List ℕ) (ns : Members) → IsUtf8 b → AreMembersAt power_width ns → IsUtf8 (base_in b (object ns))
text_in b ns u h = by (schema_at (object ns) kw.Id) (λ v e. found_sound (name kw.Id) ns v h e)
  where
    by : (o : Option Tree) → ((v : Tree) → o ≡ Some v → IsTree v) → IsUtf8 (base_by b o)
    by (Some (string cs)) g = cut_text (resolved b (encode_utf8_all cs)) (resolved_text b (encode_utf8_all cs) u
        (tree_text cs (g (string cs) refl)))
    by None g = u
    by (Some _) g = u

-- ---- the bundled schemas

module _ (to : Leads) where
  abbrev IfInner : Form → Option Tree → Type 0
  IfInner f None = ⊤
  IfInner f (Some w) = Inner f w

  anchor_kept : (b p : List ℕ) (w : Tree) → IsUtf8 b → IsTree w → IfInner form.Anchor (kept_anchor to.0 b p w)
  anchor_kept b p (string cs) u h = by (is_own_anchor to.0 b p (encode_utf8_all cs))
    where
      by : (x : Bool) → IfInner form.Anchor (cond x None (Some (string_of (with_name b (encode_utf8_all cs)))))
      by true = tt
      by false = (
        ap is_plain_name (encodes-chars (with_name b (encode_utf8_all cs))
            (named_text b (encode_utf8_all cs) u (tree_text cs h))) ∙ no_name b (encode_utf8_all cs),
        tt,
      )
  anchor_kept b p _ u h = (tt, tt)

  id_kept : (b p : List ℕ) (w : Tree) → IfInner form.Base (kept_id to.0 b p w)
  id_kept b p (string cs) = by (bundle.is_own_id to.0 b p (encode_utf8_all cs))
    where
      by : (x : Bool) → IfInner form.Base (cond x None (Some (string cs)))
      by true = tt
      by false = (tt, tt)
  id_kept b p _ = (tt, tt)

  of_form : (f : Form) (b p q : List ℕ) (dynamic : Bool) (w : Tree) → IsUtf8 b → IsTree w
      → Unnamed (schema_members (pointed to b q w)) → Unnamed (members_in_list (pointed_list to b q w))
      → Unnamed (members_in_map (pointed_map to b q w))
      → IfInner f (kept_by f w (kept_id to.0 b p w) (kept_anchor to.0 b p w) (pointing to dynamic b w) (pointed to b q w)
      (pointed_list to b q w) (pointed_map to b q w))
  of_form form.Base b p q dynamic w u h x y m = id_kept b p w
  of_form form.Anchor b p q dynamic w u h x y m = anchor_kept b p w u h
  of_form form.Reference b p q dynamic w u h x y m = (tt, tt)
  of_form form.Schema b p q dynamic w u h x y m = (tt, x)
  of_form form.Schemas b p q dynamic w u h x y m = (tt, y)
  of_form form.SchemaMap b p q dynamic w u h x y m = (tt, m)
  of_form form.PatternMap b p q dynamic w u h x y m = (tt, m)
  of_form _ b p q dynamic w u h x y m = (tt, tt)

  some_put : (s : Tree) (k : List ℕ) (o : Option Tree) (ms : Members) → IfInner (form_at (encode_utf8_all k)) o
      → Unnamed (members_among s ms) → Unnamed (members_among s (put_some k o ms))
  some_put s k None ms h g = g
  some_put s k (Some w) ms h g = put_unnamed s k w ms h g

  mutual
    pub in_schema : (b p : List ℕ) (w : Tree) → IsUtf8 b → IsTree w → Unnamed (schema_members (pointed to b p w))
    in_schema b p (object ns) u h = among (pointed to b p (object ns)) (base_in b (object ns)) p ns (text_in b ns u h.0) h.0
    in_schema b p _ u h = tt

    pub among : (s : Tree) (b p : List ℕ) (ms : Members) → IsUtf8 b → AreMembersAt power_width ms
        → Unnamed (members_among s (pointed_among to b p ms))
    among s b p no_members u h = tt
    among s b p (member k w ms) u h = some_put s k
        (kept_by (form_at (encode_utf8_all k)) w (kept_id to.0 b p w) (kept_anchor to.0 b p w)
        (pointing to (is_dynamic (encode_utf8_all k)) b w) (pointed to b (at_key p k) w) (pointed_list to b (at_key p k) w)
        (pointed_map to b (at_key p k) w)) (pointed_among to b p ms)
        (of_form (form_at (encode_utf8_all k)) b p (at_key p k) (is_dynamic (encode_utf8_all k)) w u h.1
        (in_schema b (at_key p k) w u h.1) (in_list b (at_key p k) w u h.1) (in_map b (at_key p k) w u h.1))
        (among s b p ms u h.2)

    in_list : (b p : List ℕ) (w : Tree) → IsUtf8 b → IsTree w → Unnamed (members_in_list (pointed_list to b p w))
    in_list b p (array ts) u h = of_items b p 0 ts u h
    in_list b p _ u h = tt

    in_map : (b p : List ℕ) (w : Tree) → IsUtf8 b → IsTree w → Unnamed (members_in_map (pointed_map to b p w))
    in_map b p (object ms) u h = of_members b p ms u h.0
    in_map b p _ u h = tt

    of_items : (b p : List ℕ) (i : ℕ) (ts : Items) → IsUtf8 b → AreItemsAt power_width ts
        → Unnamed (members_of_items (pointed_items to b p i ts))
    of_items b p i no_items u h = tt
    of_items b p i (item v ts) u h = both (schema_members (pointed to b (at_index p i) v))
        (members_of_items (pointed_items to b p (suc i) ts))
        (in_schema b (at_index p i) v u h.0) (of_items b p (suc i) ts u h.1)

    pub of_members : (b p : List ℕ) (ms : Members) → IsUtf8 b → AreMembersAt power_width ms
        → Unnamed (members_of_entries (pointed_members to b p ms))
    of_members b p no_members u h = tt
    of_members b p (member k w ms) u h = entry_unnamed k (pointed to b (at_key p k) w) (pointed_members to b p ms)
        (in_schema b (at_key p k) w u h.1) (of_members b p ms u h.2)

  -- no reference leads to a plain name in a bundled document
  pub unnamed : (t : Tree) → IsTree t → (ds : List ℕ) → is_plain_name ds ≡ true → anchored (anchors_in (pointed to [] [] t)) ds ≡ None
  unnamed t h ds e = none_anchored (schema_members (pointed to [] [] t)) ds (in_schema [] [] t IsUtf8-nil h) e
