-- Tokens lead in a bundled document, and in its copies, to the bundled schemas that are where they lead in the document.
use Rattle.std.proofs.Common.{◌≡◌, ◌≢◌, ◌⊎◌, ℕ, ◌<◌, ◌^◌, Bool, true, false, List, [], ◌∷◌, ◌++◌, Option, Some, None}
use Rattle.std.proofs.Common.{cond, refl, sym, ap, ◌∙◌, true≢false, bytes_eq, subst, length, encode_utf8_all, chars, codes, option_map}
use Rattle.std.proofs.Common.{inl, inr}
use Rattle.std.proofs.Common.{arith}
use Rattle.std.proofs.lemmas.Option.{same_Some}
use Rattle.std.proofs.lemmas.Slice.Eq.{bytes_eq-Decides}
use Rattle.std.specs.Option.{option_map_or}
use Rattle.std.specs.Prelude.{option_and_then}
use Rattle.tinyjson.specs.Tree.{Tree, object, Members, no_members, find}
use Rattle.tinyjson_grammar.specs.Soundness.{IsTree}
use Rattle.tinyjson_pointer.specs.Walk.{step, part_at}
use Rattle.tinyjson_schema_keywords.specs.Applied.{members_in, schema_map_at}
use Rattle.tinyjson_schema_keywords.specs.Forms.{form_at}
use Rattle.tinyjson_schema_keywords.specs.References.{form_in, form_after, is_schema_form, schema_from}
use Rattle.tinyjson_schema_keywords.specs.declared.keyword.Form.{Form}
use Rattle.tinyjson_schema_keywords.specs.declared.keyword.Form.TheVariants as form
use Rattle.tinyjson_schema_keywords.specs.declared.keyword.Keyword.TheVariants as kw
use Rattle.tinyjson_schema_bundle.specs.Bundles.{marks_of, base_in, pointed, pointed_among, at_key}
use Rattle.tinyjson_schema_bundle.specs.Scopes.{Reached, from_root, home, letters, copy_key, copy_by, place_in_list, schema_there}
use Rattle.tinyjson_schema.specs.Schemas.{is_schema}
use Rattle.tinyjson_schema_laws.proofs.Leading.{lead_in}
use Rattle.tinyjson_schema_laws.specs.Scoped.{located, base_within}
use Rattle.tinyjson_schema_laws.proofs.Copies.{found_short, short_found, copy_found, key_long, listed}
use Rattle.tinyjson_schema_laws.proofs.Pointed.{form_named}
use Rattle.tinyjson_schema_laws.proofs.Walk.{Fit, Lead, IsBundled, AreMatched, walked, from_found, fit_member, fit_entry, lead_member}
use Rattle.tinyjson_schema_laws.proofs.Walk.{lead_entry}
use Rattle.tinyjson_schema_laws.proofs.Walk.{found_sound}
use Rattle.tinyjson_schema_laws.proofs.Whole.{defs, most, longest_most, leading, copy, whole, IsWhole, made, is_whole}

-- ---- tokens after tokens

no_some : {A B : Type 0} (v : A) → None ≡ Some v → B
no_some v e = absurd (let none : None ≡ Some v = e in cc)

pub no_cond : {A B : Type 0} (b : Bool) (v : A) → cond {A = Option A} b None None ≡ Some v → B
no_cond true v e = no_some v e
no_cond false v e = no_some v e

-- tokens that lead to a schema
pub located_part : (ks : List (List ℕ)) (f : Form) (b : List ℕ) (w : Tree) (u : List ℕ) (v : Tree) → located f b w ks ≡ Some (u, v)
    → (is_schema_form (form_after f ks) ≡ true) × (part_at w ks ≡ Some v)
located_part [] form.Schema b w u v e = (refl, ap (option_map (λ x. x.1)) e)
located_part [] f b w u v e = no_some (u, v) e
located_part (k ∷ ks) f b w u v e = by (step w k) (λ y. located_part ks (form_in f k) (base_within f b w) y u v) e
  where
    by : (o : Option Tree) → ((y : Tree) → located (form_in f k) (base_within f b w) y ks ≡ Some (u, v)
        → (is_schema_form (form_after (form_in f k) ks) ≡ true) × (part_at y ks ≡ Some v))
        → option_and_then (λ y. located (form_in f k) (base_within f b w) y ks) o ≡ Some (u, v)
        → (is_schema_form (form_after (form_in f k) ks) ≡ true) × (option_and_then (λ y. part_at y ks) o ≡ Some v)
    by None later h = no_some (u, v) h
    by (Some y) later h = later y h

-- the tokens after those that lead to the schema v
pub located_after : (ks ls : List (List ℕ)) (f : Form) (b : List ℕ) (w : Tree) (u : List ℕ) (v : Tree) (x : List ℕ × Tree)
    → located f b w ks ≡ Some (u, v) → located f b w (ks ++ ls) ≡ Some x
    → (d : List ℕ) × (base_in d v ≡ u) × (located form.Schema d v ls ≡ Some x)
located_after [] ls form.Schema b w u v x e h =
    let pair : (base_in b w, w) ≡ (u, v) = same_Some (base_in b w, w) (u, v) e in
    let same : w ≡ v = ap (λ y. y.1) pair in
    (b, ap (base_in b) (sym same) ∙ ap (λ y. y.0) pair, ap (λ y. located form.Schema b y ls) (sym same) ∙ h)
located_after [] ls f b w u v x e h = no_some (u, v) e
located_after (k ∷ ks) ls f b w u v x e h = by (step w k) (λ y. located_after ks ls (form_in f k) (base_within f b w) y u v x) e h
  where
    by : (o : Option Tree) → ((y : Tree) → located (form_in f k) (base_within f b w) y ks ≡ Some (u, v)
        → located (form_in f k) (base_within f b w) y (ks ++ ls) ≡ Some x
        → (d : List ℕ) × (base_in d v ≡ u) × (located form.Schema d v ls ≡ Some x))
        → option_and_then (λ y. located (form_in f k) (base_within f b w) y ks) o ≡ Some (u, v)
        → option_and_then (λ y. located (form_in f k) (base_within f b w) y (ks ++ ls)) o ≡ Some x
        → (d : List ℕ) × (base_in d v ≡ u) × (located form.Schema d v ls ≡ Some x)
    by None later g i = no_some (u, v) g
    by (Some y) later g i = later y g i

-- where tokens lead from a schema depends on the base URI in it alone
pub located_based : (ls : List (List ℕ)) (b d : List ℕ) (v : Tree) → base_in b v ≡ base_in d v
    → located form.Schema b v ls ≡ located form.Schema d v ls
located_based [] b d v e = ap (λ u. Some (u, v)) e
located_based (k ∷ ls) b d v e = ap (λ u. option_and_then (λ y. located (form_at (encode_utf8_all k)) u y ls) (step v k)) e

-- the part where tokens lead from a value of the form, if they lead to a schema
abbrev pub goes : Form → List (List ℕ) → Option Tree → Option Tree
goes f ks o = cond (is_schema_form (form_after f ks)) (option_and_then (λ u. part_at u ks) o) None

-- ---- the bundled document

module _ (ms : Members) (copies : List Reached) (few : length copies < 2 ^ 64)
    (fit : is_schema (whole (object ms) copies) true (whole (object ms) copies) ≡ true) (sound : IsTree (object ms))
    (on : List ℕ → Bool → Tree → Bool) (lead : lead_in on [] (object ms) ≡ true) where
  abbrev t : Tree
  t = object ms

  abbrev in_whole : Tree
  in_whole = whole t copies

  -- r is the schema q bundled in the state s, or both are the roots; the base URI in q is b
  abbrev pub IsPart : Reached → List ℕ → Tree → Tree → Type 0
  IsPart s b q r = IsBundled in_whole on (leading t copies s) b q r

  abbrev pub IsRoot : Reached → List ℕ → Tree → Tree → Type 0
  IsRoot s b q r = (s ≡ from_root) × (b ≡ base_in [] t) × (q ≡ t) × (r ≡ in_whole)

  abbrev pub Found : Reached → List (List ℕ) → List ℕ × Tree → Type 0
  Found s ks x = (r : Tree) × (schema_from in_whole ks ≡ Some r) × (IsPart s x.0 x.1 r ⊎ IsRoot s x.0 x.1 r)

  matched : (s : Reached) (o : Option Tree) (x : List ℕ × Tree) → AreMatched in_whole on (leading t copies s) o (Some x)
      → (r : Tree) × (o ≡ Some r) × IsPart s x.0 x.1 r
  matched s None x h = absurd h
  matched s (Some r) x h = (r, refl, h)

  pub members_fit : (ws : Members) → IsWhole ms copies ws → (k : List ℕ) (v : Tree) → find k ws ≡ Some v
      → Fit in_whole (form_at (encode_utf8_all k)) v
  members_fit ws w k v e = fit_member in_whole k ws v true (subst (λ x. is_schema in_whole true x ≡ true) w.same fit) e

  -- the entries of `$defs`
  pub entries_fit : (ws : Members) → IsWhole ms copies ws → (ds : Members) → find defs ws ≡ Some (object ds) → (l : List ℕ) (v : Tree)
      → find l ds ≡ Some v → Fit in_whole form.Schema v
  entries_fit ws w ds e l v h = fit_entry in_whole l ds v
      (subst (λ f. Fit in_whole f (object ds)) (form_named kw.Defs) (members_fit ws w defs (object ds) e)) h

  -- where two tokens lead, of which the first is `$defs`
  pub by_entry : (ws : Members) → IsWhole ms copies ws → (l : List ℕ) (ks : List (List ℕ)) (ds : Members) → find defs ws ≡ Some (object ds)
      → schema_from in_whole (defs ∷ l ∷ ks) ≡ goes form.Schema ks (find l ds)
  by_entry ws w l ks ds e =
      ap (λ f. cond (is_schema_form (form_after (form_in f l) ks)) (part_at in_whole (defs ∷ l ∷ ks)) None) (form_named kw.Defs)
      ∙ (ap (λ x. cond (is_schema_form (form_after form.Schema ks)) (part_at x (defs ∷ l ∷ ks)) None) w.same
      ∙ ap (λ o. cond (is_schema_form (form_after form.Schema ks)) (option_and_then (λ u. part_at u (l ∷ ks)) o) None) e)

  abbrev in_main : List ℕ → Tree → Tree
  in_main l v = pointed (leading t copies from_root) (base_in [] t) (at_key (codes "/$defs") l) v

  -- what was in `$defs` before is bundled there
  pub entry_is : (ws : Members) (w : IsWhole ms copies ws) (l : List ℕ) (ds : Members) (v : Tree) → find defs ms ≡ Some (object ds)
      → find l ds ≡ Some v → find l (made ms copies w.old) ≡ Some (in_main l v)
  entry_is ws w l ds v e f =
      let is : schema_map_at t kw.Defs ≡ ds = ap (λ o. option_map_or members_in o no_members) e in
      let there : find l (schema_map_at t kw.Defs) ≡ Some v = ap (find l) is ∙ f in
      let short = found_short l v (schema_map_at t kw.Defs) 0 there in
      let long = longest_most t in
      short_found (most t) (copy t copies) copies l w.old few (omega (arith, short, long)) ∙ (w.olds l ∙ ap (option_map (in_main l)) there)

  -- `$defs` of the bundled document, if the document has it
  pub map_is : (ws : Members) (w : IsWhole ms copies ws) (d : Tree) → find defs ms ≡ Some d → find defs ws
      ≡ Some (object (made ms copies w.old))
  map_is ws w d e = by w.new
    where
      by : ((find defs ws ≡ Some (object (made ms copies w.old))) ⊎ ((find defs ws ≡ None) × (find defs ms ≡ None) × (copies ≡ [])))
          → find defs ws ≡ Some (object (made ms copies w.old))
      by (inl g) = g
      by (inr n) = no_some d (sym n.1 ∙ e)

  -- the entry l was in `$defs` before
  in_defs : (ws : Members) (w : IsWhole ms copies ws) (l : List ℕ) (ks : List (List ℕ)) (x : List ℕ × Tree) (ds : Members) (v : Tree)
      → find defs ms ≡ Some (object ds) → find l ds ≡ Some v → located form.Schema (base_in [] t) v ks ≡ Some x
      → Found from_root (defs ∷ l ∷ ks) x
  in_defs ws w l ks x ds v e f h =
      let g = map_is ws w (object ds) e in
      let m = matched from_root (goes form.Schema ks (Some (in_main l v))) x
      (subst (AreMatched in_whole on (leading t copies from_root) (goes form.Schema ks (Some (in_main l v)))) h
      (walked in_whole on (leading t copies from_root) ks form.Schema (base_in [] t) (at_key (codes "/$defs") l) v
      (found_sound l ds v (found_sound defs ms (object ds) sound.0 e).0 f)
      (lead_entry on (base_in [] t) l ds v (subst (λ g. Lead on g (base_in [] t) (object ds)) (form_named kw.Defs)
      (lead_member on (base_in [] t) defs ms (object ds) lead e)) f)
      (entries_fit ws w (made ms copies w.old) g l (in_main l v) (entry_is ws w l ds v e f)))) in
      (m.0, by_entry ws w l ks (made ms copies w.old) g ∙ (ap (goes form.Schema ks) (entry_is ws w l ds v e f) ∙ m.1), inl m.2)

  at_defs : (ks : List (List ℕ)) (x : List ℕ × Tree) → located form.Schema [] t (defs ∷ ks) ≡ Some x → Found from_root (defs ∷ ks) x
  at_defs ks x e = by (find defs ms) refl (sym (ap (λ f. option_and_then (λ v. located f (base_in [] (object ms)) v ks) (find defs ms))
      (form_named kw.Defs)) ∙ e)
    where
      w : (ws : Members) × IsWhole ms copies ws
      w = is_whole ms copies fit

      entry : (ks : List (List ℕ)) (ds : Members) → find defs ms ≡ Some (object ds)
          → located form.SchemaMap (base_in [] (object ms)) (object ds) ks ≡ Some x → Found from_root (defs ∷ ks) x
      entry [] ds f h = no_some x h
      entry (l ∷ ks) ds f h = at (find l ds) refl h
        where
          at : (o : Option Tree) → find l ds ≡ o → option_and_then (λ v. located form.Schema (base_in [] (object ms)) v ks) o ≡ Some x
              → Found from_root (defs ∷ l ∷ ks) x
          at None g i = no_some x i
          at (Some v) g i = in_defs w.0 w.1 l ks x ds v f g i

      by : (o : Option Tree) → find defs ms ≡ o
          → option_and_then (λ v. located form.SchemaMap (base_in [] (object ms)) v ks) o ≡ Some x → Found from_root (defs ∷ ks) x
      by None f h = no_some x h
      by (Some v) f h = let is = w.1.map v f in
          entry ks (members_in v) (f ∙ ap Some is) (sym (ap (λ y. located form.SchemaMap (base_in [] (object ms)) y ks) is) ∙ h)

  -- the schema to which tokens lead, bundled
  pub found : (ks : List (List ℕ)) (x : List ℕ × Tree) → located form.Schema [] t ks ≡ Some x → Found from_root ks x
  found [] x e =
      let pair : (base_in [] t, t) ≡ x = same_Some (base_in [] t, t) x e in
      (in_whole, refl, inr (refl, ap (λ y. y.0) (sym pair), ap (λ y. y.1) (sym pair), refl))
  found (k ∷ ks) x e = by (bytes_eq k defs) refl
    where
      w : (ws : Members) × IsWhole ms copies ws
      w = is_whole ms copies fit

      other : k ≢ defs → Found from_root (k ∷ ks) x
      other h =
          let m = matched from_root (goes (form_at (encode_utf8_all k)) ks (find k w.0)) x
          (subst (AreMatched in_whole on (leading (object ms) copies from_root) (goes (form_at (encode_utf8_all k)) ks (find k w.0))) e
          (from_found in_whole on (leading (object ms) copies from_root) k ks (base_in [] (object ms)) [] ms (find k w.0)
          (w.1.others k h)
          (walked in_whole on (leading (object ms) copies from_root) ks (form_at (encode_utf8_all k))) sound.0 lead
          (λ v. members_fit w.0 w.1 k v))) in (
            m.0,
            ap (λ y. cond (is_schema_form (form_after (form_at (encode_utf8_all k)) ks)) (part_at y (k ∷ ks)) None) w.1.same
                ∙ m.1,
            inl m.2,
          )

      by : (b : Bool) → bytes_eq k defs ≡ b → Found from_root (k ∷ ks) x
      by true h = let is : k ≡ defs = (bytes_eq-Decides k defs).0 h in
          subst (λ l. Found from_root (l ∷ ks) x) (sym is) (at_defs ks x (ap (λ l. located form.Schema [] (object ms) (l ∷ ks)) (sym is)
          ∙ e))
      by false h = other (λ is. true≢false (sym ((bytes_eq-Decides k defs).1 is) ∙ h))

  -- ---- the copies

  abbrev pub key : Reached → List ℕ
  key s = chars (copy_key (letters t) (place_in_list copies s))

  -- tokens at the key of a copy lead into the copy of a state in the list
  pub record Copied (s : Reached) (ks : List (List ℕ)) (r : Tree) : Type 0 where
    pub state : Reached
    pub tree : Tree
    pub is : listed copies s ≡ Some state
    pub copied : copy t copies state ≡ Some tree
    pub fits : Fit in_whole form.Schema tree
    pub leads : goes form.Schema ks (Some tree) ≡ Some r

  pub in_copy : (s : Reached) (ks : List (List ℕ)) (r : Tree) → schema_from in_whole (defs ∷ key s ∷ ks) ≡ Some r → Copied s ks r
  in_copy s ks r e = by w.1.new
    where
      w : (ws : Members) × IsWhole ms copies ws
      w = is_whole ms copies fit

      none_old : (j : ℕ) → j < 2 ^ 64 → find (chars (copy_key (letters (object ms)) j)) w.1.old ≡ None
      none_old j h = w.1.olds (chars (copy_key (letters (object ms)) j)) ∙ at (find (chars (copy_key (letters (object ms)) j))
          (schema_map_at (object ms) kw.Defs)) refl
        where
          at : (o : Option Tree) → find (chars (copy_key (letters (object ms)) j)) (schema_map_at (object ms) kw.Defs) ≡ o
              → option_map (pointed (leading (object ms) copies from_root) (base_in [] (object ms))
              (at_key (codes "/$defs") (chars (copy_key (letters (object ms)) j)))) o ≡ None
          at None f = refl
          at (Some v) f = absurd (omega (
            arith,
            key_long (most (object ms)) j h,
            longest_most (object ms),
            found_short (chars (copy_key (letters (object ms)) j)) v (schema_map_at (object ms) kw.Defs) 0 f,
          ))

      found_at : find (key s) (made ms copies w.1.old) ≡ option_and_then (copy (object ms) copies) (listed copies s)
      found_at = copy_found (most (object ms)) (copy (object ms) copies) copies s w.1.old few none_old

      state : find defs w.0 ≡ Some (object (made ms copies w.1.old)) → (o : Option Reached) → listed copies s ≡ o → (p : Option Tree)
          → option_and_then (copy (object ms) copies) o ≡ p → goes form.Schema ks p ≡ Some r → find (key s) (made ms copies w.1.old) ≡ p
          → Copied s ks r
      state g o f None h i j = no_cond (is_schema_form (form_after form.Schema ks)) r i
      state g None f (Some v) h i j = no_some v h
      state g (Some st) f (Some v) h i j = record {
        state = st;
        tree = v;
        is = f;
        copied = h;
        fits = entries_fit w.0 w.1 (made ms copies w.1.old) g (key s) v j;
        leads = i;
      }

      by : ((find defs w.0 ≡ Some (object (made ms copies w.1.old))) ⊎ ((find defs w.0 ≡ None) × (find defs ms ≡ None) × (copies ≡ [])))
          → Copied s ks r
      by (inl g) = state g (listed copies s) refl (option_and_then (copy (object ms) copies) (listed copies s)) refl
          (sym (ap (goes form.Schema ks) found_at) ∙ (sym (by_entry w.0 w.1 (key s) ks (made ms copies w.1.old) g) ∙ e)) found_at
      by (inr n) = no_cond (is_schema_form (form_after form.Schema (defs ∷ key s ∷ ks))) r
          (sym (ap (λ x. cond (is_schema_form (form_after form.Schema (defs ∷ key s ∷ ks))) (part_at x (defs ∷ key s ∷ ks)) None) w.1.same
          ∙ ap (λ o. cond (is_schema_form (form_after form.Schema (defs ∷ key s ∷ ks))) (option_and_then (λ u. part_at u (key s ∷ ks)) o)
          None)
          n.0) ∙ e)

  -- the schema to which tokens lead within a copy
  pub copied : (s : Reached) (ks ls : List (List ℕ)) (r : Tree) (c : Copied s ls r) (u : List ℕ) (v : Tree) (x : List ℕ × Tree)
      → located form.Schema [] t ks ≡ Some (u, v) → located form.Schema [] t (ks ++ ls) ≡ Some x
      → schema_there t c.state.1 ≡ schema_from t ks → (home (marks_of t) (base_in [] t) c.state.1).0 ≡ u
      → IsPart c.state x.0 x.1 r
  copied s ks ls r c u v x e f there at = by (within u v (found ks (u, v) e))
      (located_after ks ls form.Schema [] (object ms) u v x e f) (there ∙ this (located_part ks form.Schema [] (object ms) u v e))
    where
      this : (is_schema_form (form_after form.Schema ks) ≡ true) × (part_at (object ms) ks ≡ Some v) → schema_from (object ms) ks ≡ Some v
      this part = (λ i. cond (part.0 i) (part.1 i) None)

      within : (u : List ℕ) (v : Tree) → Found from_root ks (u, v)
          → (d : List ℕ) × (base_in d v ≡ u) × IsTree v × (lead_in on d v ≡ true)
      within u v (r, e, inl p) = (p.around, p.based, p.sound, p.leading)
      within u v (r, e, inr p) = ([], ap (base_in []) p.2 ∙ sym p.1, subst IsTree (sym p.2) sound, ap (lead_in on []) p.2 ∙ lead)

      made_is : (w v : Tree) (d : List ℕ) → (home (marks_of (object ms)) (base_in [] (object ms)) c.state.1).0 ≡ base_in d v
          → copy_by (leading (object ms) copies c.state) (home (marks_of (object ms)) (base_in [] (object ms)) c.state.1).0 c.state.1
          (Some v) ≡ Some w
          → w ≡ pointed (leading (object ms) copies c.state) d c.state.1 v
      made_is w (object ns) d g h = sym (same_Some (object (pointed_among (leading (object ms) copies c.state)
          (home (marks_of (object ms)) (base_in [] (object ms)) c.state.1).0 c.state.1 ns)) w h)
          ∙ ap (λ b. object (pointed_among (leading (object ms) copies c.state) b c.state.1 ns)) g
      made_is w _ d g h = no_some w h

      last : (y : Tree) → goes form.Schema ls (Some c.tree) ≡ Some y → IsPart c.state x.0 x.1 y → IsPart c.state x.0 x.1 r
      last y g p = subst (IsPart c.state x.0 x.1) (same_Some y r (sym g ∙ c.leads)) p

      one : (y : Tree) × (goes form.Schema ls (Some c.tree) ≡ Some y) × IsPart c.state x.0 x.1 y → IsPart c.state x.0 x.1 r
      one m = last m.0 m.1 m.2

      by : (own : (d : List ℕ) × (base_in d v ≡ u) × IsTree v × (lead_in on d v ≡ true))
          → (d : List ℕ) × (base_in d v ≡ u) × (located form.Schema d v ls ≡ Some x) → schema_there (object ms) c.state.1 ≡ Some v
          → IsPart c.state x.0 x.1 r
      by own after there =
          let is : c.tree ≡ pointed (leading (object ms) copies c.state) own.0 c.state.1 v
          = made_is c.tree v own.0 (at ∙ sym own.1) (sym (ap (copy_by (leading (object ms) copies c.state)
          (home (marks_of (object ms)) (base_in [] (object ms)) c.state.1).0 c.state.1) there) ∙ c.copied) in
          one (matched c.state (goes form.Schema ls (Some c.tree)) x
          (subst (AreMatched in_whole on (leading (object ms) copies c.state) (goes form.Schema ls (Some c.tree)))
          (located_based ls own.0 after.0 v (own.1 ∙ sym after.1) ∙ after.2)
          (subst (λ y. AreMatched in_whole on (leading (object ms) copies c.state) (goes form.Schema ls (Some y))
          (located form.Schema own.0 v ls)) (sym is)
          (walked in_whole on (leading (object ms) copies c.state) ls form.Schema own.0 c.state.1 v own.2 own.3
          (subst (Fit in_whole form.Schema) is c.fits)))))
