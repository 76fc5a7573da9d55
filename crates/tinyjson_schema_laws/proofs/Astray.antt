-- In a bundled document that can be applied each reference leads to a schema: so does each one of the document, and none to
-- a copy alone.
use Rattle.std.proofs.Common.{◌≡◌, ◌≢◌, ◌⊎◌, ℕ, ◌<◌, ◌≤◌, ◌^◌, Bool, true, false, ◌&&◌, List, [], ◌∷◌, ◌++◌, Option, Some, None}
use Rattle.std.proofs.Common.{cond, is_some, refl, sym, ap, ◌∙◌, true≢false, bytes_eq, subst, length, option_map, encode_utf8_all, chars}
use Rattle.std.proofs.Common.{arith, codes, append-nil, inl, inr, IsTrue}
use Rattle.std.proofs.lemmas.Bool.{and_parts}
use Rattle.std.proofs.lemmas.Option.{same_Some}
use Rattle.std.proofs.lemmas.Slice.Eq.{bytes_eq-Decides}
use Rattle.std.proofs.lemmas.Str.{scalars-chars, IsUtf8-from_is_utf8}
use Rattle.std.specs.Option.{option_map_or}
use Rattle.std.specs.Prelude.{option_and_then, unwrap_or}
use Rattle.std.specs.Str.{is_utf8, all_scalars}
use lib.Utf8.{encode}
use Rattle.tinyjson.specs.Tree.{Tree, string, object, Members, no_members, find}
use Rattle.tinyjson_grammar.specs.Soundness.{IsTree}
use Rattle.tinyjson_pointer.specs.Text.{pointer_tokens}
use Rattle.tinyjson_pointer.specs.Walk.{step, part_at}
use Rattle.text_uri.specs.Resolving.{resolved, without_fragment, fragment_of}
use Rattle.tinyjson_schema_keywords.specs.Applied.{members_in, schema_map_at}
use Rattle.tinyjson_schema_keywords.specs.Forms.{form_at}
use Rattle.tinyjson_schema_keywords.specs.References.{percent_decoded, form_in, form_after, is_schema_form, schema_from, target}
use Rattle.tinyjson_schema_keywords.specs.declared.keyword.Form.{Form}
use Rattle.tinyjson_schema_keywords.specs.declared.keyword.Form.TheVariants as form
use Rattle.tinyjson_schema_keywords.specs.declared.keyword.Keyword.TheVariants as kw
use Rattle.tinyjson_schema_bundle.specs.Bundles as bundle
use Rattle.tinyjson_schema_bundle.specs.Bundles.{Marked, Leads, marks_of, place_of, dynamic_place, with_name, base_in, is_dynamic, is_place}
use Rattle.tinyjson_schema_bundle.specs.Bundles.{is_fragment, reference_kind, reference_marks, token_char, token_text, at_key, place_after}
use Rattle.tinyjson_schema_bundle.specs.Bundles.{begins_pointer, place_below, leads_by, first_place, string_of, pointing, pointed}
use Rattle.tinyjson_schema_bundle.specs.Bundles.{pointed_among}
use Rattle.tinyjson_schema_bundle.specs.Scopes.{Reached, from_root, some_contested, is_same, is_within, is_between, is_resource_mark}
use Rattle.tinyjson_schema_bundle.specs.Scopes.{innermost, home, scope_at, reached, placed, moved, place_in_list, below, letters}
use Rattle.tinyjson_schema_bundle.specs.Scopes.{copy_key, copy_place, schema_there, copy_by, longest, letters_in}
use Rattle.tinyjson_schema_bundle.specs.declared.mark.Kind.TheVariants as kind
use Rattle.tinyjson_schema.specs.Circles.{leads}
use Rattle.tinyjson_schema.specs.Schemas.{is_schema}
use Rattle.tinyjson_schema_laws.proofs.Leading.{lead_in, to_schema, all_located, any, any_in, any_among}
use Rattle.tinyjson_schema_laws.specs.Scoped.{outermost, dynamic_in, leads_in, led_to, located, located_at, base_within}
use Rattle.tinyjson_schema_laws.specs.Short.{IsShort}
use Rattle.tinyjson_schema_laws.proofs.Containing.{within_from, within_to}
use Rattle.tinyjson_schema_laws.proofs.Copies.{other_found}
use Rattle.tinyjson_schema_laws.proofs.Homes.{below_rest, text_begins}
use Rattle.tinyjson_schema_laws.proofs.Keys.{copy_text, key_scalars}
use Rattle.tinyjson_schema_laws.proofs.Led.{place_most, listed_same, target_some}
use Rattle.tinyjson_schema_laws.proofs.Letters.{zs, key_zs, tokens_text, pointer_letters, mark_letters}
use Rattle.tinyjson_schema_laws.proofs.Located.{AreAmong, IsSet, HaveFits, Fits, leads_on, member_fits, root_leads}
use Rattle.tinyjson_schema_laws.proofs.Looking.{no_cond, goes, located_part, by_entry, entry_is, entries_fit, map_is, members_fit}
use Rattle.tinyjson_schema_laws.proofs.Looking.{Copied, in_copy}
use Rattle.tinyjson_schema_laws.proofs.Nameless.{whole_unnamed}
use Rattle.tinyjson_schema_laws.proofs.Places.{AreScalars, tokens_scalars}
use Rattle.tinyjson_schema_laws.proofs.Pointed.{form_named}
use Rattle.tinyjson_schema_laws.proofs.Rests.{rest_tokens}
use Rattle.tinyjson_schema_laws.proofs.Texts.{text_of, place_text, located_there, found_there, target_there}
use Rattle.tinyjson_schema_laws.proofs.Tokens.{place_both, both_scalars, at_root, Stands, AllStand, all_stand, place_stands, dynamic_stands}
use Rattle.tinyjson_schema_laws.proofs.Tokens.{stands_located, there, outermost_stands}
use Rattle.tinyjson_schema_laws.proofs.Walk.{Fit, AreMatched, walked, from_found, fit_member, found_sound}
use Rattle.tinyjson_schema_laws.proofs.Whole.{defs, most, leading, copy, whole, made, IsWhole, is_whole}

no_some : {A B : Type 0} (v : A) → None ≡ Some v → B
no_some v e = absurd (let none : None ≡ Some v = e in cc)

-- ---- whether tokens lead to a schema does not depend on the base URI

based : (ks : List (List ℕ)) (f : Form) (b d : List ℕ) (w : Tree) → is_some (located f b w ks) ≡ is_some (located f d w ks)
based [] form.Schema b d w = refl
based [] _ b d w = refl
based (k ∷ ks) f b d w = by (λ v. based ks (form_in f k) (base_within f b w) (base_within f d w) v) (step w k)
  where
    by : ((v : Tree) → is_some (located (form_in f k) (base_within f b w) v ks) ≡ is_some (located (form_in f k) (base_within f d w) v ks))
        → (o : Option Tree) → is_some (option_and_then (λ v. located (form_in f k) (base_within f b w) v ks) o)
        ≡ is_some (option_and_then (λ v. located (form_in f k) (base_within f d w) v ks) o)
    by later None = refl
    by later (Some v) = later v

based_next : (ks : List (List ℕ)) (f : Form) (b d : List ℕ) (o : Option Tree)
    → is_some (option_and_then (λ v. located f b v ks) o) ≡ is_some (option_and_then (λ v. located f d v ks) o)
based_next ks f b d None = refl
based_next ks f b d (Some v) = based ks f b d v

-- ---- lists of tokens

abbrev first_token : List (List ℕ) → List ℕ
first_token [] = []
first_token (k ∷ ks) = k

abbrev other_tokens : List (List ℕ) → List (List ℕ)
other_tokens [] = []
other_tokens (k ∷ ks) = ks

no_schema : (b : List ℕ) (o : Option Tree) → is_some (option_and_then (λ v. located form.SchemaMap b v []) o) ≡ false
no_schema b None = refl
no_schema b (Some v) = refl

module _ (ms : Members) (copies : List Reached) (few : length copies < 2 ^ 64)
    (fit : is_schema (whole (object ms) copies) true (whole (object ms) copies) ≡ true) (sound : IsTree (object ms)) where
  abbrev t : Tree
  t = object ms

  abbrev all : List Marked
  all = marks_of t

  abbrev r : List ℕ
  r = base_in [] t

  abbrev in_whole : Tree
  in_whole = whole t copies

  abbrev to : Leads
  to = leading t copies from_root

  lead : lead_in any [] t ≡ true
  lead = any_in [] t

  w : (ws : Members) × IsWhole ms copies ws
  w = is_whole ms copies fit

  matched_some : (s : Reached) (o : Option Tree) (d : Option (List ℕ × Tree)) (v : Tree)
      → AreMatched in_whole any (leading t copies s) o d → o ≡ Some v → is_some d ≡ true
  matched_some s None d v m e = no_some v e
  matched_some s (Some q) None v m e = absurd m
  matched_some s (Some q) (Some x) v m e = refl

  -- ---- in the main part

  -- The tokens lead to no copy: what `$defs` of the document lacks has too few letters.
  abbrev IsNoCopy : List (List ℕ) → Type 0
  IsNoCopy ks = (l : List ℕ) (ls : List (List ℕ)) → ks ≡ defs ∷ l ∷ ls → find l (schema_map_at t kw.Defs) ≡ None → zs l ≤ most t

  not_key : (l : List ℕ) → zs l ≤ most t → (j : ℕ) → j < 2 ^ 64 → l ≢ chars (copy_key (letters t) j)
  not_key l h j small e =
      let same : zs l ≡ zs (chars (copy_key (letters t) j)) = ap zs e in
      omega (arith, same, h, key_zs (most t) j small)

  none_made : (l : List ℕ) → zs l ≤ most t → find l (schema_map_at t kw.Defs) ≡ None → find l (made ms copies w.1.old) ≡ None
  none_made l h e = other_found (most t) (copy t copies) copies 0 l w.1.old (λ j a b. not_key l h j (omega (arith, b, few)))
      ∙ (w.1.olds l ∙ ap (option_map (pointed to r (at_key (codes "/$defs") l))) e)

  in_old : (l : List ℕ) (ls : List (List ℕ)) (v u : Tree) → goes form.Schema ls (find l (made ms copies w.1.old)) ≡ Some u
      → find l (schema_map_at t kw.Defs) ≡ Some v → is_some (located form.Schema [] t (defs ∷ l ∷ ls)) ≡ true
  in_old l ls v u g h = by (find defs ms) refl h
    where
      by : (o : Option Tree) → find defs ms ≡ o → find l (option_map_or members_in o no_members) ≡ Some v
          → is_some (located form.Schema [] (object ms) (defs ∷ l ∷ ls)) ≡ true
      by None f i = no_some v i
      by (Some d) f i =
          let here : find defs ms ≡ Some (object (members_in d)) = f ∙ ap Some (w.1.map d f) in
          let entry = entry_is ms copies few fit sound any lead w.0 w.1 l (members_in d) v here i in
          let fits = entries_fit ms copies few fit sound any lead w.0 w.1 (made ms copies w.1.old)
          (map_is ms copies few fit sound any lead w.0 w.1 (object (members_in d)) here) l
          (pointed to r (at_key (codes "/$defs") l) v) entry in
          let matched = walked in_whole any to ls form.Schema r (at_key (codes "/$defs") l) v
          (found_sound l (members_in d) v (found_sound defs ms (object (members_in d)) sound.0 here).0 i) (any_in r v) fits in
          let some = matched_some from_root (goes form.Schema ls (Some (pointed to r (at_key (codes "/$defs") l) v)))
          (located form.Schema r v ls) u matched (sym (ap (goes form.Schema ls) entry) ∙ g) in
          ap is_some (ap (λ f. option_and_then (λ y. located f r y (l ∷ ls)) (find defs ms)) (form_named kw.Defs)
          ∙ (ap (option_and_then (λ y. located form.SchemaMap r y (l ∷ ls))) here
          ∙ ap (option_and_then (λ y. located form.Schema r y ls)) i)) ∙ some

  entry_located : (l : List ℕ) (ls : List (List ℕ)) (u : Tree) → goes form.Schema ls (find l (made ms copies w.1.old)) ≡ Some u
      → IsNoCopy (defs ∷ l ∷ ls) → is_some (located form.Schema [] t (defs ∷ l ∷ ls)) ≡ true
  entry_located l ls u g known = by (find l (schema_map_at t kw.Defs)) refl
    where
      by : (o : Option Tree) → find l (schema_map_at (object ms) kw.Defs) ≡ o
          → is_some (located form.Schema [] (object ms) (defs ∷ l ∷ ls)) ≡ true
      by None e = no_cond (is_schema_form (form_after form.Schema ls)) u
          (sym (ap (goes form.Schema ls) (none_made l (known l ls refl e) e)) ∙ g)
      by (Some v) e = in_old l ls v u g e

  defs_located : (ks : List (List ℕ)) (u : Tree) → schema_from in_whole (defs ∷ ks) ≡ Some u → IsNoCopy (defs ∷ ks)
      → is_some (located form.Schema [] t (defs ∷ ks)) ≡ true
  defs_located [] u e known = no_some u
      (sym (ap (λ f. cond (is_schema_form f) (part_at in_whole (defs ∷ [])) None) (form_named kw.Defs)) ∙ e)
  defs_located (l ∷ ls) u e known = by w.1.new
    where
      by : ((find defs w.0 ≡ Some (object (made ms copies w.1.old))) ⊎ ((find defs w.0 ≡ None) × (find defs ms ≡ None) × (copies ≡ [])))
          → is_some (located form.Schema [] (object ms) (defs ∷ l ∷ ls)) ≡ true
      by (inl g) = entry_located l ls u
          (sym (by_entry ms copies few fit sound any lead w.0 w.1 l ls (made ms copies w.1.old) g) ∙ e) known
      by (inr n) = no_cond (is_schema_form (form_after form.Schema (defs ∷ l ∷ ls))) u
          (sym (ap (λ x. cond (is_schema_form (form_after form.Schema (defs ∷ l ∷ ls))) (part_at x (defs ∷ l ∷ ls)) None) w.1.same
          ∙ ap (λ o. cond (is_schema_form (form_after form.Schema (defs ∷ l ∷ ls))) (option_and_then (λ y. part_at y (l ∷ ls)) o) None)
          n.0) ∙ e)

  main_located : (ks : List (List ℕ)) (u : Tree) → schema_from in_whole ks ≡ Some u → IsNoCopy ks
      → is_some (located form.Schema [] t ks) ≡ true
  main_located [] u e known = refl
  main_located (k ∷ ks) u e known = by (bytes_eq k defs) refl
    where
      other : k ≢ defs → is_some (located form.Schema [] (object ms) (k ∷ ks)) ≡ true
      other n = matched_some from_root (goes (form_at (encode_utf8_all k)) ks (find k w.0))
          (option_and_then (λ v. located (form_at (encode_utf8_all k)) (base_in [] (object ms)) v ks) (find k ms)) u
          (from_found in_whole any to k ks (base_in [] (object ms)) [] ms (find k w.0) (w.1.others k n)
          (walked in_whole any to ks (form_at (encode_utf8_all k))) sound.0 (any_among (base_in [] (object ms)) ms)
          (λ v. members_fit ms copies few fit sound any lead w.0 w.1 k v))
          (sym (ap (λ y. cond (is_schema_form (form_after (form_at (encode_utf8_all k)) ks)) (part_at y (k ∷ ks)) None) w.1.same) ∙ e)

      by : (b : Bool) → bytes_eq k defs ≡ b → is_some (located form.Schema [] (object ms) (k ∷ ks)) ≡ true
      by true h = let is : k ≡ defs = (bytes_eq-Decides k defs).0 h in
          subst (λ l. is_some (located form.Schema [] (object ms) (l ∷ ks)) ≡ true) (sym is)
          (defs_located ks u (ap (λ l. schema_from in_whole (l ∷ ks)) (sym is) ∙ e) (λ l ls f. known l ls (ap (λ x. x ∷ ks) is ∙ f)))
      by false h = other (λ is. true≢false (sym ((bytes_eq-Decides k defs).1 is) ∙ h))

  -- ---- in a copy

  copy_located : (s : Reached) (ks : List (List ℕ)) (u : Tree) (c : Copied ms copies few fit sound any lead s ks u) (b : List ℕ) (v : Tree)
      → schema_there t c.state.1 ≡ Some v → IsTree v → is_some (located form.Schema b v ks) ≡ true
  copy_located s ks u c b v e h = by v h
      (sym (ap (copy_by (leading t copies c.state) (home all r c.state.1).0 c.state.1) e) ∙ c.copied) ks c.leads
    where
      by : (v : Tree) → IsTree v → copy_by (leading (object ms) copies c.state)
          (home (marks_of (object ms)) (base_in [] (object ms)) c.state.1).0 c.state.1 (Some v) ≡ Some c.tree
          → (ks : List (List ℕ)) → goes form.Schema ks (Some c.tree) ≡ Some u → is_some (located form.Schema b v ks) ≡ true
      by (object ns) h f [] g = refl
      by (object ns) h f (k ∷ ks) g =
          let is : object (pointed_among (leading t copies c.state) (home all r c.state.1).0 c.state.1 ns) ≡ c.tree
          = same_Some (object (pointed_among (leading t copies c.state) (home all r c.state.1).0 c.state.1 ns)) c.tree f in
          let fits : Fit in_whole form.Schema (object (pointed_among (leading t copies c.state) (home all r c.state.1).0 c.state.1 ns))
          = subst (Fit in_whole form.Schema) (sym is) c.fits in
          let matched = from_found in_whole any (leading t copies c.state) k ks (home all r c.state.1).0 c.state.1 ns
          (find k (pointed_among (leading t copies c.state) (home all r c.state.1).0 c.state.1 ns)) refl
          (walked in_whole any (leading t copies c.state) ks (form_at (encode_utf8_all k))) h.0 (any_among (home all r c.state.1).0 ns)
          (λ x. fit_member in_whole k (pointed_among (leading t copies c.state) (home all r c.state.1).0 c.state.1 ns) x fits.0 fits.1) in
          based_next ks (form_at (encode_utf8_all k)) (base_in b (object ns)) (home all r c.state.1).0 (find k ns)
          ∙ matched_some c.state
          (goes (form_at (encode_utf8_all k)) ks
          (find k (pointed_among (leading t copies c.state) (home all r c.state.1).0 c.state.1 ns)))
          (option_and_then (λ y. located (form_at (encode_utf8_all k)) (home all r c.state.1).0 y ks) (find k ns)) u matched
          (ap (goes form.Schema (k ∷ ks)) (ap Some is) ∙ g)
      by _ h f ks g = no_some c.tree f

  module _ (short : IsShort (object ms)) where
    -- ---- names

    abbrev Leads_on : Option (List ℕ) → Type 0
    Leads_on o = is_some (option_and_then (located_at t) o) ≡ true

    standing_on : (q : List ℕ) → Stands t q → is_some (located_at t q) ≡ true
    standing_on q s = let l = stands_located t sound short q s in ap is_some (there t sound short q l.0 l.1)

    place_on : (o : Option (List ℕ)) → ((q : List ℕ) → o ≡ Some q → Stands t q) → is_some o ≡ true → Leads_on o
    place_on None h e = e
    place_on (Some q) h e = standing_on q (h q refl)

    dynamic_on : (b u n : List ℕ) → is_some (dynamic_in all (b ∷ []) u n) ≡ true → Leads_on (dynamic_in all (b ∷ []) u n)
    dynamic_on b u n e = by (dynamic_place all (with_name u n)) refl e
      where
        outer : (p : List ℕ) → Stands (object ms) p → (x : Option (List ℕ)) → outermost (marks_of (object ms)) (b ∷ []) n ≡ x
            → is_some (located_at (object ms) (unwrap_or x p)) ≡ true
        outer p s None h = standing_on p s
        outer p s (Some q) h = standing_on q (outermost_stands (object ms) sound short (b ∷ []) n q h)

        by : (o : Option (List ℕ)) → dynamic_place (marks_of (object ms)) (with_name u n) ≡ o
            → is_some (option_map_or (λ p. Some (unwrap_or (outermost (marks_of (object ms)) (b ∷ []) n) p)) o
            (place_of (marks_of (object ms)) (with_name u n))) ≡ true
            → Leads_on (option_map_or (λ p. Some (unwrap_or (outermost (marks_of (object ms)) (b ∷ []) n) p)) o
            (place_of (marks_of (object ms)) (with_name u n)))
        by None f g = place_on (place_of (marks_of (object ms)) (with_name u n))
            (λ q. place_stands (object ms) sound short (with_name u n) q) g
        by (Some p) f g = outer p (dynamic_stands (object ms) sound short (with_name u n) p f)
            (outermost (marks_of (object ms)) (b ∷ []) n) refl

    -- ---- pointers

    -- a schema is at the place, which contains q
    abbrev Contains : List ℕ → List ℕ → Type 0
    Contains q e = Stands t e × (is_within e q ≡ true)

    home_contains : (q : List ℕ) (ns : List Marked) → AllStand t ns → (h : List ℕ × List ℕ) → Contains q h.1
        → Contains q (innermost all r ns q h).1
    home_contains q [] a h s = s
    home_contains q (m ∷ ns) a h s = home_contains q ns a.1 (cond (is_between [] q m) (m.1, m.2) h) (by (is_between [] q m) refl)
      where
        by : (x : Bool) → is_between [] q m ≡ x → Contains q (cond x (m.1, m.2) h).1
        by true e = (a.0, (and_parts (is_resource_mark m.0 && is_within [] m.2) (is_within m.2 q) e).1)
        by false e = s

    -- where tokens lead, they name no copy
    tokens_known : (ts ks : List (List ℕ)) → is_some (located form.Schema [] t ts) ≡ true
        → ((l : List ℕ) (ls : List (List ℕ)) → ks ≡ defs ∷ l ∷ ls → zs l ≤ most t) → IsNoCopy (ts ++ ks)
    tokens_known [] ks h f l ls e n = f l ls e
    tokens_known (x ∷ []) ks h f l ls e n = absurd (true≢false (sym h
        ∙ (ap (λ y. is_some (located form.Schema [] t (y ∷ []))) (ap first_token e)
        ∙ (ap (λ g. is_some (option_and_then (λ v. located g r v []) (find defs ms))) (form_named kw.Defs)
        ∙ no_schema r (find defs ms)))))
    tokens_known (x ∷ y ∷ ts) ks h f l ls e n = absurd (true≢false (sym h
        ∙ (ap (λ g. is_some (located form.Schema [] t (g ∷ y ∷ ts))) (ap first_token e)
        ∙ (ap (λ g. is_some (located form.Schema [] t (defs ∷ g ∷ ts))) (ap (λ g. first_token (other_tokens g)) e)
        ∙ (ap (λ g. is_some (option_and_then (λ v. located g r v (l ∷ ts)) (find defs ms))) (form_named kw.Defs)
        ∙ by (find defs ms) refl n)))))
      where
        by : (o : Option Tree) → find defs ms ≡ o → find l (option_map_or members_in o no_members) ≡ None
            → is_some (option_and_then (λ v. located form.SchemaMap (base_in [] (object ms)) v (l ∷ ts)) o) ≡ false
        by None g i = refl
        by (Some d) g i = ap (λ y. is_some (located form.SchemaMap (base_in [] (object ms)) y (l ∷ ts))) (w.1.map d g)
            ∙ ap (λ o. is_some (option_and_then (λ v. located form.Schema (base_in [] (object ms)) v ts) o)) i

    module _ (b p : List ℕ) (dynamic : Bool) (cs : List ℕ)
        (mark : AreAmong (marks_of (object ms)) (reference_marks p (string cs)))
        (on : leads (whole (object ms) copies) (pointing (leading (object ms) copies from_root) dynamic b (string cs)) ≡ true) where
      abbrev resolved_here : List ℕ
      resolved_here = resolved b (encode_utf8_all cs)

      abbrev uri : List ℕ
      uri = without_fragment resolved_here

      abbrev at_base : List ℕ
      at_base = unwrap_or (place_of all b) []

      few_letters : letters_in (encode_utf8_all cs) ≤ most t
      few_letters = mark_letters all (longest (schema_map_at t kw.Defs) 0)
          (reference_kind (encode_utf8_all cs), encode_utf8_all cs, p)
          (mark (reference_kind (encode_utf8_all cs), encode_utf8_all cs, p) (inl refl)) (by (is_fragment (encode_utf8_all cs)))
        where
          by : (x : Bool) → is_place (cond x kind.Inside kind.Outside) ≡ false
          by true = refl
          by false = refl

      module _ (ds e : List ℕ) (ks : List (List ℕ))
          (decoded : percent_decoded (unwrap_or (fragment_of (resolved b (encode_utf8_all cs))) []) ≡ Some ds)
          (utf8 : is_utf8 ds ≡ true) (begins : begins_pointer ds ≡ true)
          (here : place_of (marks_of (object ms)) (without_fragment (resolved b (encode_utf8_all cs))) ≡ Some e)
          (tokens : pointer_tokens (chars ds) ≡ Some ks) where
        abbrev q : List ℕ
        q = place_after e ks

        abbrev next : Reached
        next = reached all r (scope_at all r from_root at_base) q

        abbrev moved_to : List ℕ
        moved_to = moved (place_of all) all r (letters t) (some_contested all r all) copies from_root at_base q

        first : first_place to dynamic b resolved_here ≡ Some q
        first = ap (option_and_then (leads_by to dynamic b uri)) decoded
            ∙ (ap (λ x. cond x (bundle.leads_in to dynamic b uri ds) None) utf8
            ∙ (ap (λ x. cond x (option_and_then (λ y. place_below y ds) (place_of all uri))
            (cond dynamic (to.1 b uri ds) (place_of all (with_name uri ds)))) begins
            ∙ (ap (option_and_then (λ y. place_below y ds)) here ∙ ap (option_map (place_after e)) tokens)))

        points : pointing to dynamic b (string cs) ≡ string_of (35 ∷ moved_to)
        points = ap (λ o. option_map_or (λ y. string_of (35 ∷ y)) (option_map (moved (place_of all) all r (letters t)
            (some_contested all r all) copies from_root at_base) o) (string cs)) first

        target_is : (u : Tree) × (target in_whole (string_of (35 ∷ moved_to)) ≡ Some u)
        target_is = target_some in_whole (string_of (35 ∷ moved_to)) (subst (λ x. leads in_whole x ≡ true) points on)

        stands : Stands t e
        stands = place_stands t sound short uri e here

        scalars : AreScalars (stands.2.tokens ++ ks)
        scalars = both_scalars stands.2.tokens ks stands.2.scalars (tokens_scalars ks
            (subst (λ xs. IsTrue (all_scalars xs)) (sym (tokens_text (chars ds) ks tokens))
            (scalars-chars ds (IsUtf8-from_is_utf8 ds utf8))))

        place : q ≡ place_after [] (stands.2.tokens ++ ks)
        place = ap (λ x. place_after x ks) stands.2.place ∙ sym (place_both [] stands.2.tokens ks)

        no_copy : IsNoCopy (stands.2.tokens ++ ks)
        no_copy = tokens_known stands.2.tokens ks
            (ap is_some (sym (ap (located form.Schema [] t) (append-nil stands.2.tokens)) ∙ stands.2.goes []))
            (λ l ls f. omega (
              arith,
              few_letters,
              pointer_letters b (encode_utf8_all cs) ds defs l ls decoded (IsUtf8-from_is_utf8 ds utf8) (tokens ∙ ap Some f),
            ))

        by_tokens : (ts : List (List ℕ)) → AreScalars ts → q ≡ place_after [] ts → is_some (located form.Schema [] t ts) ≡ true
            → is_some (located_at t q) ≡ true
        by_tokens ts s f h = ap (λ x. is_some (located_at t x)) f ∙ (ap is_some (located_there ts s t) ∙ h)

        in_main : moved_to ≡ q → is_some (located_at t q) ≡ true
        in_main f = by_tokens (stands.2.tokens ++ ks) scalars place (main_located (stands.2.tokens ++ ks) target_is.0
            (sym (target_there (stands.2.tokens ++ ks) scalars in_whole)
            ∙ (ap (λ y. target in_whole (string_of (35 ∷ y))) (sym place ∙ sym f) ∙ target_is.1)) no_copy)

        begins_q : begins_pointer q ≡ true
        begins_q = ap begins_pointer (place ∙ place_text [] (stands.2.tokens ++ ks)) ∙ text_begins (stands.2.tokens ++ ks)

        contains : Contains q (home all r q).1
        contains = home_contains q all (all_stand t sound short) (r, []) (([], t, at_root t sound short), within_from [] q begins_q)

        small : place_in_list copies next < 2 ^ 64
        small = let n = place_most copies next in omega (arith, n, few)

        -- the tokens below the resource
        in_resource : (rest : List ℕ) → q ≡ (home all r q).1 ++ rest → begins_pointer rest ≡ true → (ls : List (List ℕ)) → AreScalars ls
            → rest ≡ text_of ls
            → moved_to ≡ copy_place (letters t) (place_in_list copies next) (unwrap_or (below (home all r q).1 q) [])
            → is_some (located_at t q) ≡ true
        in_resource rest split start ls s is f =
            let below_is : unwrap_or (below (home all r q).1 q) [] ≡ text_of ls
            = ap (λ x. unwrap_or (below (home all r q).1 x) []) split
            ∙ (ap (λ o. unwrap_or o []) (below_rest (home all r q).1 rest start) ∙ is) in
            let text : moved_to ≡ place_after [] (defs ∷ chars (copy_key (letters t) (place_in_list copies next)) ∷ ls)
            = f ∙ copy_text (most t) (place_in_list copies next) small ls (unwrap_or (below (home all r q).1 q) []) below_is in
            let from : schema_from in_whole (defs ∷ chars (copy_key (letters t) (place_in_list copies next)) ∷ ls) ≡ Some target_is.0
            = sym (target_there (defs ∷ chars (copy_key (letters t) (place_in_list copies next)) ∷ ls)
            (key_scalars (most t) (place_in_list copies next) small ls s) in_whole)
            ∙ (ap (λ y. target in_whole (string_of (35 ∷ y))) (sym text) ∙ target_is.1) in
            in_state rest split ls s is (in_copy ms copies few fit sound any lead next ls target_is.0 from)
          where
            home_is : schema_there (object ms) (home (marks_of (object ms)) (base_in [] (object ms)) q).1 ≡ Some contains.0.1
            home_is = ap (schema_there (object ms)) contains.0.2.place
                ∙ (found_there contains.0.2.tokens contains.0.2.scalars (object ms)
                ∙ this (located_part contains.0.2.tokens form.Schema [] (object ms) (base_in contains.0.0 contains.0.1) contains.0.1
                (sym (ap (located form.Schema [] (object ms)) (append-nil contains.0.2.tokens)) ∙ contains.0.2.goes [])))
              where
                this : (is_schema_form (form_after form.Schema contains.0.2.tokens) ≡ true)
                    × (part_at (object ms) contains.0.2.tokens ≡ Some contains.0.1)
                    → schema_from (object ms) contains.0.2.tokens ≡ Some contains.0.1
                this part = (λ i. cond (part.0 i) (part.1 i) None)

            in_state : (rest : List ℕ) → q ≡ (home (marks_of (object ms)) (base_in [] (object ms)) q).1 ++ rest → (ls : List (List ℕ))
                → AreScalars ls → rest ≡ text_of ls → Copied ms copies few fit sound any lead next ls target_is.0
                → is_some (located_at (object ms) q) ≡ true
            in_state rest split ls s is c =
                let same = listed_same copies next c.state c.is in
                let some = copy_located next ls target_is.0 c contains.0.0 contains.0.1
                (ap (schema_there (object ms)) same.1 ∙ home_is) contains.0.2.sound in
                by_tokens (contains.0.2.tokens ++ ls) (both_scalars contains.0.2.tokens ls contains.0.2.scalars s)
                (split ∙ ((λ i. contains.0.2.place i ++ is i) ∙ (sym (place_text (place_after [] contains.0.2.tokens) ls)
                ∙ sym (place_both [] contains.0.2.tokens ls))))
                (ap is_some (contains.0.2.goes ls) ∙ some)

        in_a_copy : moved_to ≡ copy_place (letters t) (place_in_list copies next) (unwrap_or (below (home all r q).1 q) [])
            → is_some (located_at t q) ≡ true
        in_a_copy f =
            let split = within_to (home all r q).1 q contains.1 in
            let inner = rest_tokens (stands.2.tokens ++ ks) (home all r q).1 split.0 scalars
            (sym (place ∙ place_text [] (stands.2.tokens ++ ks)) ∙ split.1) split.2 in
            in_resource split.0 split.1 split.2 inner.0 inner.1 inner.2 f

        pointer_on : is_some (located_at t q) ≡ true
        pointer_on = by (some_contested all r all) refl
          where
            contested : (x : Bool) → is_same next.0 (scope_at all r from_root q) ≡ x
                → moved_to ≡ cond x q (copy_place (letters t) (place_in_list copies next) (unwrap_or (below (home all r q).1 q) []))
                → is_some (located_at t q) ≡ true
            contested true f g = in_main g
            contested false f g = in_a_copy g

            by : (x : Bool) → some_contested all r all ≡ x → is_some (located_at t q) ≡ true
            by false f = in_main (ap (λ x. cond x (placed (place_of all) all r (letters t) (some_contested all r all) copies from_root
                q next) q) f)
            by true f = contested (is_same next.0 (scope_at all r from_root q)) refl
                (ap (λ x. cond x (placed (place_of all) all r (letters t) (some_contested all r all) copies from_root q next) q) f)

      -- ---- a reference

      abbrev by_scope : Leads
      by_scope = leads_in all (b ∷ [])

      place_known : (ds : List ℕ) → percent_decoded (unwrap_or (fragment_of resolved_here) []) ≡ Some ds → is_utf8 ds ≡ true
          → begins_pointer ds ≡ true → (o : Option (List ℕ)) → place_of all uri ≡ o
          → is_some (option_and_then (λ y. place_below y ds) o) ≡ true → Leads_on (option_and_then (λ y. place_below y ds) o)
      place_known ds f g h None i j = j
      place_known ds f g h (Some e) i j = by (pointer_tokens (chars ds)) refl j
        where
          by : (o : Option (List (List ℕ))) → pointer_tokens (chars ds) ≡ o → is_some (option_map (place_after e) o) ≡ true
              → Leads_on (option_map (place_after e) o)
          by None k l = l
          by (Some ks) k l = pointer_on ds e ks f g h i k

      name_known : (ds : List ℕ) (x : Bool) → is_some (cond x (dynamic_in all (b ∷ []) uri ds) (place_of all (with_name uri ds))) ≡ true
          → Leads_on (cond x (dynamic_in all (b ∷ []) uri ds) (place_of all (with_name uri ds)))
      name_known ds true j = dynamic_on b uri ds j
      name_known ds false j = place_on (place_of all (with_name uri ds)) (λ y. place_stands t sound short (with_name uri ds) y) j

      text_known : (ds : List ℕ) → percent_decoded (unwrap_or (fragment_of resolved_here) []) ≡ Some ds → is_utf8 ds ≡ true
          → (x : Bool) → begins_pointer ds ≡ x
          → is_some (cond x (option_and_then (λ y. place_below y ds) (place_of all uri))
          (cond dynamic (dynamic_in all (b ∷ []) uri ds) (place_of all (with_name uri ds)))) ≡ true
          → Leads_on (cond x (option_and_then (λ y. place_below y ds) (place_of all uri))
          (cond dynamic (dynamic_in all (b ∷ []) uri ds) (place_of all (with_name uri ds))))
      text_known ds f g true h j = place_known ds f g h (place_of all uri) refl j
      text_known ds f g false h j = name_known ds dynamic j

      bytes_known : (ds : List ℕ) → percent_decoded (unwrap_or (fragment_of resolved_here) []) ≡ Some ds → (x : Bool) → is_utf8 ds ≡ x
          → is_some (cond x (bundle.leads_in by_scope dynamic b uri ds) None) ≡ true
          → Leads_on (cond x (bundle.leads_in by_scope dynamic b uri ds) None)
      bytes_known ds f true g j = text_known ds f g (begins_pointer ds) refl j
      bytes_known ds f false g j = j

      fragment_known : (o : Option (List ℕ)) → percent_decoded (unwrap_or (fragment_of resolved_here) []) ≡ o
          → is_some (option_and_then (leads_by by_scope dynamic b uri) o) ≡ true
          → Leads_on (option_and_then (leads_by by_scope dynamic b uri) o)
      fragment_known None f j = j
      fragment_known (Some ds) f j = bytes_known ds f (is_utf8 ds) refl j

      reference_on : is_some (led_to all (b ∷ []) dynamic (string cs)) ≡ true → to_schema t b dynamic (string cs) ≡ true
      reference_on h = fragment_known (percent_decoded (unwrap_or (fragment_of resolved_here) [])) refl h

    -- ---- the document

    is_on : (b p : List ℕ) (dynamic : Bool) (v : Tree) → IsSet (marks_of (object ms)) b
        → AreAmong (marks_of (object ms)) (reference_marks p v)
        → leads (whole (object ms) copies) (pointing (leading (object ms) copies from_root) dynamic b v) ≡ true
        → to_schema (object ms) b dynamic v ≡ true
    is_on b p dynamic (string cs) set mark on = reference_on b p dynamic cs mark on
        (leads_on all r (letters t) (some_contested all r all) copies from_root in_whole (whole_unnamed ms copies sound) b dynamic
        (string cs) set on)
    is_on b p dynamic _ set mark on = absurd (true≢false (sym on))

    at_defs : at_key [] defs ≡ codes "/$defs"
    unfolding encode
    at_defs = refl

    abbrev FitsIn : Form → List ℕ → List ℕ → Bool → Tree → Type 0
    FitsIn = Fits all in_whole to (to_schema t) is_on

    defs_fit : (d : Tree) (dynamic : Bool) → find defs ms ≡ Some d → FitsIn form.SchemaMap r (at_key [] defs) dynamic d
    defs_fit d dynamic e = subst (λ p. FitsIn form.SchemaMap r p dynamic d) (sym at_defs) (λ l v f.
        let is : find defs ms ≡ Some (object (members_in d)) = e ∙ ap Some (w.1.map d e) in
        entries_fit ms copies few fit sound any lead w.0 w.1 (made ms copies w.1.old)
        (map_is ms copies few fit sound any lead w.0 w.1 d e) l (pointed to r (at_key (codes "/$defs") l) v)
        (entry_is ms copies few fit sound any lead w.0 w.1 l (members_in d) v is f))

    root_fits : HaveFits all in_whole to (to_schema t) is_on r [] ms
    root_fits k v e = by (bytes_eq k defs) refl
      where
        by : (x : Bool) → bytes_eq k defs ≡ x
            → FitsIn (form_at (encode_utf8_all k)) (base_in [] (object ms)) (at_key [] k) (is_dynamic (encode_utf8_all k)) v
        by true h = let is : k ≡ defs = (bytes_eq-Decides k defs).0 h in
            subst (λ l. FitsIn (form_at (encode_utf8_all l)) (base_in [] (object ms)) (at_key [] l) (is_dynamic (encode_utf8_all l)) v)
            (sym is)
            (subst (λ f. FitsIn f (base_in [] (object ms)) (at_key [] defs) (is_dynamic (encode_utf8_all defs)) v)
            (sym (form_named kw.Defs))
            (defs_fit v (is_dynamic (encode_utf8_all defs)) (ap (λ l. find l ms) (sym is) ∙ e)))
        by false h = member_fits (marks_of (object ms)) in_whole to (to_schema (object ms)) is_on (base_in [] (object ms)) [] ms w.0 true
            (subst (λ x. is_schema in_whole true x ≡ true) w.1.same fit) k v e
            (w.1.others k (λ is. true≢false (sym ((bytes_eq-Decides k defs).1 is) ∙ h)))

    pub each_located : all_located t ≡ true
    each_located = root_leads ms in_whole to (to_schema t) is_on sound root_fits
