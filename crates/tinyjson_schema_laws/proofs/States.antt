-- The scopes of the bundled document along a document: what it keeps of the dynamic scope of each schema.
use Rattle.std.proofs.Common.{◌≡◌, ℕ, Bool, true, false, ◌&&◌, List, [], ◌∷◌, ◌++◌}
use Rattle.std.proofs.Common.{Option, Some, None, cond, refl, sym, ap, ◌∙◌, true≢false, bytes_eq}
use Rattle.std.proofs.Common.{⊎_elim}
use Rattle.std.proofs.lemmas.Bool.{and_parts, and_from, and_left, and_right, and_cases, false_from_ne_true}
use Rattle.std.proofs.lemmas.Slice.Eq.{bytes_eq-Decides}
use Rattle.std.specs.Option.{option_or}
use Rattle.std.specs.Prelude.{⊤, unwrap_or, is_none}
use Rattle.tinyjson.specs.Tree.{Tree, object}
use Rattle.tinyjson_schema_keywords.specs.declared.keyword.Form.TheVariants as form
use Rattle.text_uri.specs.Resolving.{without_fragment}
use Rattle.tinyjson_schema_bundle.specs.Bundles.{Marked, begins_pointer, is_empty, base_in, is_resource, marks_of, place_of, is_named}
use Rattle.tinyjson_schema_bundle.specs.Bundles.{is_dynamic_name}
use Rattle.tinyjson_schema_bundle.specs.Bundles as names
use Rattle.tinyjson_schema_bundle.specs.Scopes as bundle
use Rattle.tinyjson_schema_bundle.specs.Scopes.{Reached, from_root, is_within, is_resource_mark, is_between, name_in, settled, is_contested}
use Rattle.tinyjson_schema_bundle.specs.Scopes.{is_entering, entered_by, scope_by, scope_at, innermost, home, reached, is_same}
use Rattle.tinyjson_schema_laws.proofs.Containing.{Chain, enclosing, within_itself, within_within, within_begins, within_from}
use Rattle.tinyjson_schema_laws.proofs.Positions.{IsUnder, IsNested, own, top, IsAt, own_base, chain_here, own_nested}

-- ---- resources that are entered again

named_itself : (m : Marked) → is_dynamic_name m.0 ≡ true → is_named m (name_in m) ≡ true
named_itself m h = and_from (is_dynamic_name m.0) (bytes_eq (name_in m) (name_in m)) h ((bytes_eq-Decides (name_in m) (name_in m)).1 refl)

settled_more : (c : Bool) (x y : Option (List ℕ)) → is_none x ≡ false → is_none (option_or x y) ≡ false
settled_more c None y h = absurd (true≢false h)
settled_more c (Some p) y h = refl

module _ (all : List Marked) (r : List ℕ) where
  -- a name that is settled stays so, and names are settled by marks at the end
  kept_settled : (c : List Marked) (m : Marked) (n : List ℕ) → is_none (settled c n) ≡ false → is_none (settled (c ++ m ∷ []) n) ≡ false
  kept_settled [] m n h = absurd (true≢false h)
  kept_settled (l ∷ c) m n h = by (kept_settled c m n) (is_named l n) h
    where
      by : (is_none (settled c n) ≡ false → is_none (settled (c ++ m ∷ []) n) ≡ false) → (b : Bool)
          → is_none (cond b (Some l.2) (settled c n)) ≡ false → is_none (cond b (Some l.2) (settled (c ++ m ∷ []) n)) ≡ false
      by later true g = refl
      by later false g = later g

  last_settled : (c : List Marked) (m : Marked) (n : List ℕ) → is_named m n ≡ true → is_none (settled (c ++ m ∷ []) n) ≡ false
  last_settled [] m n h = ap (λ b. is_none (cond b (Some m.2) None)) h
  last_settled (l ∷ c) m n h = by (last_settled c m n h) (is_named l n)
    where
      by : is_none (settled (c ++ m ∷ []) n) ≡ false → (b : Bool) → is_none (cond b (Some l.2) (settled (c ++ m ∷ []) n)) ≡ false
      by later true = refl
      by later false = later

  module _ (u : List ℕ) where
    -- none of the marks enters the scope
    abbrev IsDone : List Marked → List Marked → Type 0
    IsDone [] c = ⊤
    IsDone (m ∷ ms) c = (is_entering all r c u m ≡ false) × IsDone ms c

    done_same : (ms c : List Marked) → IsDone ms c → entered_by all r ms u c ≡ c
    done_same [] c h = refl
    done_same (m ∷ ms) c h = ap (λ b. entered_by all r ms u (cond b (c ++ m ∷ []) c)) h.0 ∙ done_same ms c h.1

    done_more : (c : List Marked) (m l : Marked) → is_entering all r c u m ≡ false → is_entering all r (c ++ l ∷ []) u m ≡ false
    done_more c m l h = ⊎_elim
        (λ g. and_left (is_contested all r m && bytes_eq (without_fragment m.1) u) (is_none (settled (c ++ l ∷ []) (name_in m))) g)
        (λ g. and_right (is_contested all r m && bytes_eq (without_fragment m.1) u) (is_none (settled (c ++ l ∷ []) (name_in m)))
        (kept_settled c l (name_in m) g))
        (and_cases (is_contested all r m && bytes_eq (without_fragment m.1) u) (is_none (settled c (name_in m))) h)

    done_after_all : (ms c : List Marked) (m : Marked) → is_entering all r c u m ≡ false
        → is_entering all r (entered_by all r ms u c) u m ≡ false
    done_after_all [] c m h = h
    done_after_all (l ∷ ms) c m h = done_after_all ms (cond (is_entering all r c u l) (c ++ l ∷ []) c) m (by (is_entering all r c u l))
      where
        by : (b : Bool) → is_entering all r (cond b (c ++ l ∷ []) c) u m ≡ false
        by true = done_more c m l h
        by false = h

    done_once : (c : List Marked) (m : Marked) → is_entering all r (cond (is_entering all r c u m) (c ++ m ∷ []) c) u m ≡ false
    done_once c m = by (is_entering all r c u m) refl
      where
        by : (b : Bool) → is_entering all r c u m ≡ b → is_entering all r (cond b (c ++ m ∷ []) c) u m ≡ false
        by true h =
            let contested = (and_parts (is_contested all r m) (bytes_eq (without_fragment m.1) u)
            (and_parts (is_contested all r m && bytes_eq (without_fragment m.1) u) (is_none (settled c (name_in m))) h).0).0 in
            let named = (and_parts (is_dynamic_name m.0) (is_none (names.outermost all r (name_in m) m.2)) contested).0 in
            and_right (is_contested all r m && bytes_eq (without_fragment m.1) u) (is_none (settled (c ++ m ∷ []) (name_in m)))
            (last_settled c m (name_in m) (named_itself m named))
        by false h = h

    done_all : (ms c : List Marked) → IsDone ms (entered_by all r ms u c)
    done_all [] c = tt
    done_all (m ∷ ms) c = (
      done_after_all ms (cond (is_entering all r c u m) (c ++ m ∷ []) c) m (done_once c m),
      done_all ms (cond (is_entering all r c u m) (c ++ m ∷ []) c),
    )

    pub entered_again : (c : List Marked) → bundle.entered all r u (bundle.entered all r u c) ≡ bundle.entered all r u c
    entered_again c = done_same all (bundle.entered all r u c) (done_all all c)

  -- ---- scopes along chains

  -- the scope c after those resources of the chain that are within e
  abbrev pub along : List ℕ → List Marked → Chain → List Marked
  along e c [] = c
  along e c (x ∷ ch) = cond (is_within e x.1) (bundle.entered all r x.0 (along e c ch)) (along e c ch)

  and_true : (b : Bool) → (b && true) ≡ b
  and_true true = refl
  and_true false = refl

  and_no : (b : Bool) → (b && false) ≡ false
  and_no true = refl
  and_no false = refl

  scope_along : (ms : List Marked) (e p : List ℕ) (c : List Marked) (ch : Chain)
      → scope_by all r ms e p (along e c ch) ≡ along e c (enclosing p ms ch)
  scope_along [] e p c ch = refl
  scope_along (m ∷ ms) e p c ch =
      ap (scope_by all r ms e p) (by (is_resource_mark m.0) (is_within m.2 p))
      ∙ scope_along ms e p c (cond (is_resource_mark m.0 && is_within m.2 p) ((m.1, m.2) ∷ ch) ch)
    where
      by : (x z : Bool) → cond (x && is_within e m.2 && z) (bundle.entered all r m.1 (along e c ch)) (along e c ch)
          ≡ along e c (cond (x && z) ((m.1, m.2) ∷ ch) ch)
      by true true = ap (λ b. cond b (bundle.entered all r m.1 (along e c ch)) (along e c ch)) (and_true (is_within e m.2))
      by true false = ap (λ b. cond b (bundle.entered all r m.1 (along e c ch)) (along e c ch)) (and_no (is_within e m.2))
      by false z = refl

  pub scope_chain : (s : Reached) (p : List ℕ) → scope_at all r s p ≡ along s.1 s.0 (enclosing p all [])
  scope_chain s p = scope_along all s.1 p s.0 []

  -- the resources that contain e are not within it
  along_above : (e : List ℕ) (c : List Marked) (ch : Chain) → IsUnder e ch → along e c ch ≡ c
  along_above e c [] h = refl
  along_above e c (x ∷ ch) h = ap (λ b. cond b (bundle.entered all r x.0 (along e c ch)) (along e c ch)) h.1 ∙ along_above e c ch h.2

  -- ---- the innermost resource

  abbrev pub head : List ℕ × List ℕ → Chain → List ℕ × List ℕ
  head h [] = h
  head h (x ∷ ch) = x

  root_within : (q : List ℕ) → begins_pointer q ≡ true → is_within [] q ≡ true
  root_within q h = within_from [] q h

  innermost_head : (ms : List Marked) (p : List ℕ) (h : List ℕ × List ℕ) (ch : Chain) → begins_pointer p ≡ true
      → innermost all r ms p (head h ch) ≡ head h (enclosing p ms ch)
  innermost_head [] p h ch g = refl
  innermost_head (m ∷ ms) p h ch g =
      ap (innermost all r ms p) (by (is_resource_mark m.0) (is_within m.2 p) refl)
      ∙ innermost_head ms p h (cond (is_resource_mark m.0 && is_within m.2 p) ((m.1, m.2) ∷ ch) ch) g
    where
      by : (x z : Bool) → is_within m.2 p ≡ z
          → cond (x && is_within [] m.2 && z) (m.1, m.2) (head h ch) ≡ head h (cond (x && z) ((m.1, m.2) ∷ ch) ch)
      by true true e = ap (λ b. cond (b && true) (m.1, m.2) (head h ch)) (root_within m.2 (within_begins m.2 p e g))
      by true false e = ap (λ b. cond b (m.1, m.2) (head h ch)) (and_no (is_within [] m.2))
      by false z e = refl

  home_head : (p : List ℕ) → begins_pointer p ≡ true → home all r p ≡ head (r, []) (enclosing p all [])
  home_head p g = innermost_head all p (r, []) [] g

  -- ---- the resources that contain a place, and those that contain another one in it

  abbrev trimmed : List ℕ → Chain → Chain
  trimmed h [] = []
  trimmed h (x ∷ ch) = cond (is_within x.1 h) (x ∷ trimmed h ch) (trimmed h ch)

  trim : (ms : List Marked) (h q : List ℕ) (ch : Chain) → is_within h q ≡ true
      → enclosing h ms (trimmed h ch) ≡ trimmed h (enclosing q ms ch)
  trim [] h q ch g = refl
  trim (m ∷ ms) h q ch g =
      ap (enclosing h ms) (by (is_resource_mark m.0) (is_within m.2 q) refl)
      ∙ trim ms h q (cond (is_resource_mark m.0 && is_within m.2 q) ((m.1, m.2) ∷ ch) ch) g
    where
      by : (x z : Bool) → is_within m.2 q ≡ z
          → cond (x && is_within m.2 h) ((m.1, m.2) ∷ trimmed h ch) (trimmed h ch) ≡ trimmed h (cond (x && z) ((m.1, m.2) ∷ ch) ch)
      by true true e = refl
      by true false e = ap (λ b. cond b ((m.1, m.2) ∷ trimmed h ch) (trimmed h ch))
          (false_from_ne_true (is_within m.2 h) (λ f. true≢false (sym (within_within m.2 h q f g) ∙ e)))
      by false z e = refl

  trimmed_under : (h : List ℕ) (ch : Chain) → IsUnder h ch → trimmed h ch ≡ ch
  trimmed_under h [] u = refl
  trimmed_under h (x ∷ ch) u = ap (λ b. cond b (x ∷ trimmed h ch) (trimmed h ch)) u.0 ∙ ap (λ l. x ∷ l) (trimmed_under h ch u.2)

  trimmed_top : (ch : Chain) → IsNested ch → trimmed (head (r, []) ch).1 ch ≡ ch
  trimmed_top [] n = refl
  trimmed_top (x ∷ ch) n = ap (λ b. cond b (x ∷ trimmed x.1 ch) (trimmed x.1 ch)) (within_itself x.1)
      ∙ ap (λ l. x ∷ l) (trimmed_under x.1 ch n.0)

  -- the innermost resource of a nested chain is entered again
  along_top : (c : List Marked) (ch : Chain) → IsNested ch
      → along (head (r, []) ch).1 (bundle.entered all r (head (r, []) ch).0 c) ch ≡ bundle.entered all r (head (r, []) ch).0 c
  along_top c [] n = refl
  along_top c (x ∷ ch) n =
      ap (λ b. cond b (bundle.entered all r x.0 (along x.1 (bundle.entered all r x.0 c) ch)) (along x.1 (bundle.entered all r x.0 c) ch))
      (within_itself x.1)
      ∙ (ap (bundle.entered all r x.0) (along_above x.1 (bundle.entered all r x.0 c) ch n.0) ∙ entered_again x.0 c)

-- ---- schemas of a document

module _ (t : Tree) where
  abbrev pub all : List Marked
  all = marks_of t

  abbrev pub r : List ℕ
  r = base_in [] t

  module _ (d p : List ℕ) (s : Tree) (ch : Chain) (at : IsAt t form.Schema d p s ch) where
    abbrev inner : List ℕ × List ℕ
    inner = head all r (r, []) (own d p s ch)

    head_top : (l : Chain) → head all r (r, []) l ≡ top t l
    head_top [] = refl
    head_top (x ∷ l) = refl

    -- the scope of a schema, from a state
    pub scope_here : (st : Reached) → scope_at all r st p ≡ along all r st.1 st.0 (own d p s ch)
    scope_here st = scope_chain all r st p ∙ ap (along all r st.1 st.0) (chain_here t d p s ch at)

    home_inner : home all r p ≡ inner
    home_inner = home_head all r p at.begins ∙ ap (head all r (r, [])) (chain_here t d p s ch at)

    -- its home is the resource with its base URI
    pub home_base : (home all r p).0 ≡ base_in d s
    home_base = ap (λ x. x.0) (home_inner ∙ head_top (own d p s ch)) ∙ own_base t d p s ch at

    pub home_first : home all r p ≡ top t (own d p s ch)
    home_first = home_inner ∙ head_top (own d p s ch)

    inner_contains : is_within inner.1 p ≡ true
    inner_contains = by s
      where
        outer : (l : Chain) → IsUnder p l → is_within (head all r (r, []) l).1 p ≡ true
        outer [] u = within_from [] p at.begins
        outer (x ∷ l) u = u.0

        resource : (b : List ℕ) (x : Bool) → is_within (head all r (r, []) (cond x ((b, p) ∷ ch) ch)).1 p ≡ true
        resource b true = within_itself p
        resource b false = outer ch at.under

        by : (s : Tree) → is_within (head all r (r, []) (own d p s ch)).1 p ≡ true
        by (object ms) = resource (base_in d (object ms)) (is_resource p (object ms))
        by _ = outer ch at.under

    pub home_contains : is_within (home all r p).1 p ≡ true
    home_contains = ap (λ x. is_within x.1 p) home_inner ∙ inner_contains

    inner_chain : enclosing inner.1 all [] ≡ own d p s ch
    inner_chain = trim all r all inner.1 p [] inner_contains ∙ (ap (trimmed all r inner.1) (chain_here t d p s ch at)
        ∙ trimmed_top all r (own d p s ch) (own_nested t d p s ch at))

    pub home_again : home all r (home all r p).1 ≡ home all r p
    home_again = ap (λ x. home all r x.1) home_inner ∙ (home_head all r inner.1 (within_begins inner.1 p inner_contains at.begins)
        ∙ (ap (head all r (r, [])) inner_chain ∙ sym home_inner))

    -- at its home the scope is the same
    pub scope_home : (st : Reached) → scope_at all r st (home all r p).1 ≡ scope_at all r st p
    scope_home st = ap (λ x. scope_at all r st x.1) home_inner
        ∙ (scope_chain all r st inner.1 ∙ (ap (along all r st.1 st.0) inner_chain ∙ sym (scope_here st)))

    -- the scope of what was reached
    pub scope_reached : (c : List Marked) → scope_at all r (reached all r c p) p ≡ (reached all r c p).0
    scope_reached c = scope_here (reached all r c p)
        ∙ (ap (λ x. along all r x.1 (bundle.entered all r x.0 c) (own d p s ch)) home_inner
        ∙ (along_top all r c (own d p s ch) (own_nested t d p s ch at) ∙ ap (λ x. bundle.entered all r x.0 c) (sym home_inner)))

    -- the scope at the place of its base URI
    pub scope_base : (st : Reached) → place_of all (base_in d s) ≡ Some (home all r p).1
        → scope_at all r st (unwrap_or (place_of all (base_in d s)) []) ≡ scope_at all r st p
    scope_base st e = ap (λ o. scope_at all r st (unwrap_or o [])) e ∙ scope_home st
