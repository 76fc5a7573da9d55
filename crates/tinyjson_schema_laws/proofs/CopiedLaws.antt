-- The laws of documents with copies.
use Rattle.std.proofs.Common.{◌≡◌, inl, inr, ℕ, ◌<◌, ◌^◌, Bool, true, false, ◌&&◌, List, [], ◌∷◌, ◌++◌, Some}
use Rattle.std.proofs.Common.{None}
use Rattle.std.proofs.Common.{cond, refl, sym, ap, ◌∙◌, true≢false, bytes_eq, subst, length, arith}
use Rattle.std.proofs.lemmas.Bool.{and_parts, or_parts}
use Rattle.std.proofs.lemmas.Option.{same_Some}
use Rattle.std.specs.Prelude.{◌↔◌, unwrap_or}
use Rattle.tinyjson.specs.Index.{nth}
use Rattle.tinyjson.specs.Tree.{Tree, array, object, Members, find}
use Rattle.tinyjson_grammar.specs.Soundness.{IsTree}
use Rattle.tinyjson_schema_keywords.specs.Applied.{items_in, members_in}
use Rattle.tinyjson_schema_keywords.specs.Forms.{form_of}
use Rattle.tinyjson_schema_keywords.specs.Names.{name}
use Rattle.tinyjson_schema_keywords.specs.declared.keyword.Form.{Form}
use Rattle.tinyjson_schema_keywords.specs.declared.keyword.Form.TheVariants as form
use Rattle.tinyjson_schema_keywords.specs.declared.keyword.Keyword.{Keyword}
use Rattle.tinyjson_schema_bundle.specs.Bundles.{Marked, marks_of, place_of, base_in, is_bundle, is_empty, at_key, at_index}
use Rattle.tinyjson_schema_bundle.specs.Scopes.{Reached, from_root, is_same, is_within, is_between, is_resource_mark, innermost, home}
use Rattle.tinyjson_schema_bundle.specs.Scopes.{scope_at}
use Rattle.tinyjson_schema_bundle.specs.Scopes.{is_contested, some_contested, bundled, with_copies, letters, IsOneOf, IsScope, HaveScopes}
use Rattle.tinyjson_schema.specs.Schemas.{is_schema}
use Rattle.tinyjson_schema.specs.Valid.{IsValidIn}
use Rattle.tinyjson_schema_laws.specs.Laws.{kept, IsCopied, ExactCopied, DecidedCopied}
use Rattle.tinyjson_schema_laws.proofs.Leading.{lead_in, to_schema}
use Rattle.tinyjson_schema_laws.specs.Scoped.{Scope, Scoped, base, entered, led_to, judged, IsValidScoped}
use Rattle.tinyjson_schema_laws.proofs.Astray.{each_located}
use Rattle.tinyjson_schema_laws.proofs.Containing.{IsShort, Chain, within_key, within_index, within_within}
use Rattle.tinyjson_schema_laws.proofs.Copied.{Positions, Related, simulates, begins}
use Rattle.tinyjson_schema_laws.proofs.Copies.{listed}
use Rattle.tinyjson_schema_laws.proofs.Distinct.{AreOwn, own_resources, root_place}
use Rattle.tinyjson_schema_laws.proofs.Exactly.{exactly, each_value_decided}
use Rattle.tinyjson_schema_laws.proofs.Homes.{homed, position}
use Rattle.tinyjson_schema_laws.proofs.Led.{IsHomed, IsKeptAt, AreFaithful}
use Rattle.tinyjson_schema_laws.proofs.Names.{one_name}
use Rattle.tinyjson_schema_laws.proofs.Parts.{IsIn}
use Rattle.tinyjson_schema_laws.proofs.Pointed.{form_named}
use Rattle.tinyjson_schema_laws.proofs.Positions.{IsAt, own, keyword_at, item_at, entry_at, pattern_at}
use Rattle.tinyjson_schema_laws.proofs.Standing.{IsAmong, IsOwned, owned_kept, owned_scope, same_scopes, Stands, stands_root, stands_below}
use Rattle.tinyjson_schema_laws.proofs.States.{home_base, scope_base}
use Rattle.tinyjson_schema_laws.proofs.Tokens.{led_homes}
use Rattle.tinyjson_schema_laws.proofs.Whole.{whole}

no_some : {A B : Type 0} (v : A) → None ≡ Some v → B
no_some v e = absurd (let none : None ≡ Some v = e in cc)

-- ---- contested names

among : (ns : List Marked) (m : Marked) → IsOneOf ns m → IsAmong m ns
among [] m h = h
among (n ∷ ns) m (inl e) = inl e
among (n ∷ ns) m (inr h) = inr (among ns m h)

module _ (all : List Marked) (r : List ℕ) where
  owned : (c : List Marked) → IsScope all r c → IsOwned all r c
  owned [] h = tt
  owned (m ∷ c) h = (among all m h.0, h.1, owned c h.2)

  listed_owned : (ss : List Reached) (s st : Reached) → HaveScopes all r ss → listed ss s ≡ Some st → IsOwned all r st.0
  listed_owned [] s st h e = no_some st e
  listed_owned (t ∷ ss) s st h e = by (listed_owned ss s st h.1) (is_same t.0 s.0 && bytes_eq t.1 s.1) e
    where
      by : (listed ss s ≡ Some st → IsOwned all r st.0) → (b : Bool) → cond b (Some t) (listed ss s) ≡ Some st → IsOwned all r st.0
      by later true f = subst (λ x. IsOwned all r x.0) (same_Some t st f) (owned t.0 h.0)
      by later false f = later f

  uncontested : (ms : List Marked) (m : Marked) → some_contested all r ms ≡ false → IsAmong m ms → is_contested all r m ≡ false
  uncontested [] m h a = absurd a
  uncontested (n ∷ ms) m h (inl e) = ap (is_contested all r) e ∙ (or_parts (is_contested all r n) (some_contested all r ms) h).0
  uncontested (n ∷ ms) m h (inr a) = uncontested ms m (or_parts (is_contested all r n) (some_contested all r ms) h).1 a

  owned_none : some_contested all r all ≡ false → (c : List Marked) → IsOwned all r c → c ≡ []
  owned_none h [] o = refl
  owned_none h (m ∷ c) o = absurd (true≢false (sym o.1 ∙ uncontested all m h o.0))

  -- the resource of a place is the first with its URI
  home_place : (ms : List Marked) (p : List ℕ) (h : List ℕ × List ℕ) → AreOwn all ms → place_of all h.0 ≡ Some h.1
      → place_of all (innermost all r ms p h).0 ≡ Some (innermost all r ms p h).1
  home_place [] p h o e = e
  home_place (m ∷ ms) p h o e = home_place ms p (cond (is_between [] p m) (m.1, m.2) h) o.1 (by (is_between [] p m) refl)
    where
      by : (b : Bool) → is_between [] p m ≡ b → place_of all (cond b (m.1, m.2) h).0 ≡ Some (cond b (m.1, m.2) h).1
      by true f = o.0 (and_parts (is_resource_mark m.0) _ (and_parts (is_resource_mark m.0 && is_within [] m.2) (is_within m.2 p) f).0).0
      by false f = e

module _ (ms : Members) (copies : List Reached) (few : length copies < 2 ^ 64)
    (fit : is_schema (whole (object ms) copies) true (whole (object ms) copies) ≡ true) (sound : IsTree (object ms))
    (lead : lead_in (to_schema (object ms)) [] (object ms) ≡ true) (short : IsShort (object ms))
    (scopes : HaveScopes (marks_of (object ms)) (base_in [] (object ms)) copies) where
  abbrev t : Tree
  t = object ms

  abbrev on : List ℕ → Bool → Tree → Bool
  on = to_schema t

  -- the schema stands at a place, where the state keeps the scope
  abbrev Keeps : Scope → Reached → Tree → Type 0
  Keeps c st s = (d : List ℕ) × (p : List ℕ) × (ch : Chain) × Stands t c st d p s ch

  -- ---- subschemas

  deeper : (p x : List ℕ) → is_empty (p ++ 47 ∷ x) ≡ false
  deeper [] x = refl
  deeper (c ∷ p) x = refl

  abbrev Below : List ℕ → List ℕ → Chain → Tree → Type 0
  Below b p ch v = (q : List ℕ) × IsAt t form.Schema b q v ch × (is_within p q ≡ true) × (is_empty q ≡ false)

  in_list : (b p k : List ℕ) (ch : Chain) (w v : Tree) → IsAt t form.Schemas b (at_key p k) w ch → (i : ℕ) → nth (items_in w) i ≡ Some v
      → Below b p ch v
  in_list b p k ch (array ts) v a i e = (
    at_index (at_key p k) i,
    item_at t b (at_key p k) ts ch a i v e,
    within_within p (at_key p k) (at_index (at_key p k) i) (within_key p k) (within_index (at_key p k) i),
    deeper (at_key p k) _,
  )
  in_list b p k ch _ v a i e = no_some v e

  in_map : (b p k : List ℕ) (ch : Chain) (w v : Tree) → IsAt t form.SchemaMap b (at_key p k) w ch → (l : List ℕ) → find l (members_in w)
      ≡ Some v
      → Below b p ch v
  in_map b p k ch (object es) v a l e = (
    at_key (at_key p k) l,
    entry_at t b (at_key p k) es ch a l v e,
    within_within p (at_key p k) (at_key (at_key p k) l) (within_key p k) (within_key (at_key p k) l),
    deeper (at_key p k) _,
  )
  in_map b p k ch _ v a l e = no_some v e

  in_keyword : (f : Form) (b p k : List ℕ) (ch : Chain) (w v : Tree) → IsAt t f b (at_key p k) w ch → IsIn f w v → Below b p ch v
  in_keyword form.Schema b p k ch w v a i = (
    at_key p k,
    subst (λ x. IsAt t form.Schema b (at_key p k) x ch) i a,
    within_key p k,
    deeper p
        _,
  )
  in_keyword form.Schemas b p k ch w v a i = in_list b p k ch w v a i.0 i.1
  in_keyword form.SchemaMap b p k ch w v a i = in_map b p k ch w v a i.0 i.1
  in_keyword form.PatternMap b p k ch w v a i = in_map b p k ch w v (pattern_at t b (at_key p k) w ch a) i.0 i.1
  in_keyword _ b p k ch w v a i = absurd i

  below : (c : Scope) (st : Reached) (ns : Members) → Keeps c st (object ns) → (k : Keyword) (w v : Tree) → find (name k) ns ≡ Some w
      → IsIn (form_of k) w v → Keeps (entered c v) st v
  below c st ns h k w v e i =
      let at : IsAt t (form_of k) (base_in h.0 (object ns)) (at_key h.1 (name k)) w (own h.0 h.1 (object ns) h.2)
      = subst (λ f. IsAt t f (base_in h.0 (object ns)) (at_key h.1 (name k)) w (own h.0 h.1 (object ns) h.2)) (form_named k)
      (keyword_at t h.0 h.1 ns h.2 h.3.at (name k) w e) in
      let q = in_keyword (form_of k) (base_in h.0 (object ns)) h.1 (name k) (own h.0 h.1 (object ns) h.2) w v at i in
      (base_in h.0 (object ns), q.0, own h.0 h.1 (object ns) h.2, stands_below t c st h.0 h.1 (object ns) h.2 h.3 q.0 v q.1 q.2 q.3)

  -- ---- the place of the base URI

  based : (c : Scope) (st : Reached) (s : Tree) → Keeps c st s → kept (marks_of t) (base_in [] t) c
      ≡ scope_at (marks_of t) (base_in [] t) st (unwrap_or (place_of (marks_of t) (base c)) [])
  based c st s h =
      let own_place : place_of (marks_of t) (home (marks_of t) (base_in [] t) h.1).0 ≡ Some (home (marks_of t) (base_in [] t) h.1).1
      = home_place (marks_of t) (base_in [] t) (marks_of t) h.1 (base_in [] t, []) (own_resources ms copies few fit sound on lead)
      (root_place ms copies few fit sound on lead) in
      let found : place_of (marks_of t) (base_in h.0 s) ≡ Some (home (marks_of t) (base_in [] t) h.1).1
      = ap (place_of (marks_of t)) (sym (home_base t h.0 h.1 s h.2 h.3.at)) ∙ own_place in
      h.3.held ∙ (sym (scope_base t h.0 h.1 s h.2 h.3.at st found)
      ∙ ap (λ u. scope_at (marks_of t) (base_in [] t) st (unwrap_or (place_of (marks_of t) u) [])) (sym h.3.based))

  -- ---- references

  home_of : (c : Scope) (st : Reached) (s : Tree) → Keeps c st s → (dynamic : Bool) (w : Tree) → on (base c) dynamic w ≡ true
      → (q : List ℕ) × (x : List ℕ × Tree) × (led_to (marks_of t) c dynamic w ≡ Some q) × IsHomed t q x
  home_of c st s h dynamic w e =
      let l = led_homes t sound short c (base c ∷ []) refl dynamic w e in
      (l.0, l.1, l.2, homed ms copies few fit sound on lead short l.0 l.1 l.3.tokens l.3.scalars l.3.place l.3.is)

  reached_there : (c : Scope) (q : List ℕ) (x : List ℕ × Tree) (r : Tree) → IsHomed t q x
      → (h : IsKeptAt ms copies few fit sound on lead (x.0 ∷ c) q x r) → Keeps (x.0 ∷ c) h.state x.1
  reached_there c q x r m h =
      let at = position ms copies few fit sound on lead short q x (m.outer ++ m.inner) m.place m.is in
      (at.0, q, at.1, record { at = at.2; held = h.keeps; inside = h.inside; based = sym at.3 })

  positions : Positions ms copies few fit sound lead Keeps
  positions = record {
    root = ([], [], [], stands_root t sound short);
    below = below;
    based = based;
    homed = home_of;
    reached = reached_there;
  }

  faithful : AreFaithful ms copies few fit sound on lead
  faithful = record {
    main = λ c q e. same_scopes (marks_of t) (base_in [] t) (one_name t sound short) (kept (marks_of t) (base_in [] t) c)
        (scope_at (marks_of t) (base_in [] t) from_root q) (owned_kept (marks_of t) (base_in [] t) c)
        (owned_scope (marks_of t) (base_in [] t) from_root q tt) e;
    copy = λ c s st l e. same_scopes (marks_of t) (base_in [] t) (one_name t sound short) st.0 (kept (marks_of t) (base_in [] t) c)
        (listed_owned (marks_of t) (base_in [] t) copies s st scopes l) (owned_kept (marks_of t) (base_in [] t) c) e;
    none = λ f c q. owned_none (marks_of t) (base_in [] t) f (kept (marks_of t) (base_in [] t) c) (owned_kept (marks_of t) (base_in [] t) c)
        ∙ sym (owned_none (marks_of t) (base_in [] t) f (scope_at (marks_of t) (base_in [] t) from_root q)
        (owned_scope (marks_of t) (base_in [] t) from_root q tt));
  }

  pub whole_exact : (formats : Bool) (u : Tree) → IsValidScoped t formats u ↔ IsValidIn
      (record { tree = whole t copies; formats = formats }) u
  whole_exact formats u = exactly t (whole t copies) (Related ms copies few fit sound lead Keeps positions faithful)
      (simulates ms copies few fit sound lead Keeps positions faithful) (begins ms copies few fit sound lead Keeps positions faithful)
      formats u

  pub whole_decided : (formats : Bool) (u : Tree) → (is : Bool) × (n : ℕ) × ((g : Scoped) → judged t formats n g u ≡ is)
  whole_decided formats u = each_value_decided t (whole t copies) (Related ms copies few fit sound lead Keeps positions faithful)
      (simulates ms copies few fit sound lead Keeps positions faithful) (begins ms copies few fit sound lead Keeps positions faithful)
      formats u

-- ---- the laws

is_whole : (t : Tree) (copies : List Reached) → is_bundle (marks_of t) ≡ true → bundled copies t ≡ whole t copies
is_whole t copies e = ap (λ x. cond x (with_copies (place_of (marks_of t)) (marks_of t) (base_in [] t) (letters t)
    (some_contested (marks_of t) (base_in [] t) (marks_of t)) copies t copies) t) e

pub exact_copied : ExactCopied
exact_copied t copies is formats u = by t is
  where
    by : (t : Tree) → IsCopied t copies → IsValidScoped t formats u ↔ IsValidIn (record { tree = bundled copies t; formats = formats }) u
    by (object ms) is =
        let same = is_whole (object ms) copies is.several in
        let few : length copies < 2 ^ 64 = (let l = is.states.few in omega (arith, l)) in
        let fit = subst (λ b. is_schema b true b ≡ true) same is.applied in
        subst (λ b. IsValidScoped (object ms) formats u ↔ IsValidIn (record { tree = b; formats = formats }) u) (sym same)
        (whole_exact ms copies few fit is.sound (each_located ms copies few fit is.sound is.short) is.short is.states.scopes formats u)
    by _ is = absurd (true≢false (sym is.several))

pub decided_copied : DecidedCopied
decided_copied t copies is formats u = by t is
  where
    by : (t : Tree) → IsCopied t copies → (is : Bool) × (n : ℕ) × ((g : Scoped) → judged t formats n g u ≡ is)
    by (object ms) is =
        let few : length copies < 2 ^ 64 = (let l = is.states.few in omega (arith, l)) in
        let fit = subst (λ b. is_schema b true b ≡ true) (is_whole (object ms) copies is.several) is.applied in
        whole_decided ms copies few fit is.sound (each_located ms copies few fit is.sound is.short) is.short is.states.scopes formats u
    by _ is = absurd (true≢false (sym is.several))
