-- The schema to which tokens lead stands at their place, and the first tokens lead to its resource.
use Rattle.std.proofs.Common.{◌≡◌, ℕ, ◌<◌, ◌^◌, Bool, true, false, ◌==◌, not, List, [], ◌∷◌, ◌++◌, Option}
use Rattle.std.proofs.Common.{Some, None}
use Rattle.std.proofs.Common.{length, take, drop, get_or}
use Rattle.std.proofs.Common.{cond, refl, sym, ap, ◌∙◌, true≢false, bytes_eq, subst, option_map, encode_utf8_all, arith, append_assoc}
use Rattle.std.proofs.Common.{append-nil, codes}
use Rattle.std.proofs.lemmas.Bool.{and_parts, and_from}
use Rattle.std.proofs.lemmas.Fmt.{decimal-digits_value}
use Rattle.std.proofs.lemmas.Option.{same_Some}
use Rattle.std.proofs.lemmas.Slice.Eq.{bytes_eq-Decides}
use Rattle.std.specs.Fmt.{decimal}
use Rattle.std.specs.Prelude.{option_and_then, unwrap_or}
use Rattle.std.specs.Str.{all_ascii_digits}
use Rattle.std.specs.Str.Parse.{digits_value}
use lib.Seq.{take-append_seam, drop-append_seam}
use Rattle.tinyjson.specs.Index.{nth}
use Rattle.tinyjson.specs.Tree.{Tree, boolean, array, object, Items, Members, find}
use Rattle.tinyjson_grammar.specs.Soundness.{IsTree}
use Rattle.tinyjson_pointer.specs.Index.{index_of, is_index}
use Rattle.tinyjson_pointer.specs.Walk.{step, item_of}
use Rattle.tinyjson_schema_keywords.specs.Applied.{members_in}
use Rattle.tinyjson_schema_keywords.specs.Forms.{form_at, is_some_item}
use Rattle.tinyjson_schema_keywords.specs.References.{form_in}
use Rattle.tinyjson_schema_keywords.specs.declared.keyword.Form.{Form}
use Rattle.tinyjson_schema_keywords.specs.declared.keyword.Form.TheVariants as form
use Rattle.tinyjson_schema_keywords.specs.declared.keyword.Keyword.TheVariants as kw
use Rattle.tinyjson_schema_bundle.specs.Bundles.{Leads, marks_of, base_in, is_resource, at_key, at_index, place_after, begins_pointer}
use Rattle.tinyjson_schema_bundle.specs.Bundles.{pointed}
use Rattle.tinyjson_schema_bundle.specs.Bundles.{pointed_among, pointed_items, pointed_members}
use Rattle.tinyjson_schema_bundle.specs.Scopes.{Reached, from_root, below, home}
use Rattle.tinyjson_schema.specs.Schemas.{is_schema}
use Rattle.tinyjson_schema_laws.proofs.Leading.{lead_in}
use Rattle.tinyjson_schema_laws.specs.Scoped.{located, base_within}
use Rattle.tinyjson_schema_laws.proofs.Containing.{IsShort, Chain, index_key, own_digits as digits_model}
use Rattle.tinyjson_schema_laws.proofs.Led.{IsHomed}
use Rattle.tinyjson_schema_laws.proofs.Looking.{entries_fit, members_fit, entry_is, map_is}
use Rattle.tinyjson_schema_laws.proofs.Places.{AreScalars}
use Rattle.tinyjson_schema_laws.proofs.Pointed.{changed, found_pointed, form_named}
use Rattle.tinyjson_schema_laws.proofs.Positions.{IsAt, at_root, keyword_at, item_at, entry_at, pattern_at, own, own_base, top}
use Rattle.tinyjson_schema_laws.proofs.States.{home_first, home_base, home_again, home_contains, scope_reached}
use Rattle.tinyjson_schema_laws.proofs.Texts.{text_of, place_text}
use Rattle.tinyjson_schema_laws.proofs.Tokens.{place_both, place_more, nth_count}
use Rattle.tinyjson_schema_laws.proofs.Walk.{Fit, is_live, dead_located, live_kept, live_changed, form_pointed, fit_member}
use Rattle.tinyjson_schema_laws.proofs.Walk.{fit_item, fit_entry}
use Rattle.tinyjson_schema_laws.proofs.Walk.{nth_pointed, find_pointed}
use Rattle.tinyjson_schema_laws.proofs.Whole.{defs, leading, whole, made, IsWhole, is_whole}

no_some : {A B : Type 0} (v : A) → None ≡ Some v → B
no_some v e = absurd (let none : None ≡ Some v = e in cc)

-- ---- tokens that are indices

pub index_decimal : (k : List ℕ) (i : ℕ) → index_of k ≡ Some i → i < 2 ^ 64 → k ≡ decimal i
index_decimal k i e small = by (is_index k) refl e
  where
    lead : (ds : List ℕ) → is_index ds ≡ true → (all_ascii_digits ds ≡ true) × (0 < length ds) × (get_or ds 0 0 ≡ 48 → length ds ≡ 1)
    lead [] h = absurd (true≢false (sym h))
    lead (c ∷ []) h = ((and_parts (all_ascii_digits (c ∷ [])) _ h).0, omega arith, λ z. refl)
    lead (c ∷ d ∷ ds) h =
        let both = and_parts (all_ascii_digits (c ∷ d ∷ ds)) (not (c == 48)) h in
        (both.0, omega arith, λ z. absurd (true≢false (sym both.1 ∙ ap (λ x. not (x == 48)) z)))

    by : (b : Bool) → is_index k ≡ b → cond b (Some (digits_value 10 k)) None ≡ Some i → k ≡ decimal i
    by true f g =
        let same : digits_value 10 k ≡ i = same_Some (digits_value 10 k) i g in
        let l = lead k f in
        sym (decimal-digits_value digits_model k l.0 l.1 l.2 (omega (arith, same, small))) ∙ ap decimal same
    by false f g = no_some i g

-- the rest of a place after one that contains it
pub below_rest : (e r : List ℕ) → begins_pointer r ≡ true → below e (e ++ r) ≡ Some r
below_rest e r h =
    ap (λ b. cond b (Some (drop (length e) (e ++ r))) None)
    (and_from _ _ ((bytes_eq-Decides (take (length e) (e ++ r)) e).1 (take-append_seam e r)) (ap begins_pointer (drop-append_seam e r) ∙ h))
    ∙ ap Some (drop-append_seam e r)

pub text_begins : (ks : List (List ℕ)) → begins_pointer (text_of ks) ≡ true
text_begins [] = refl
text_begins (k ∷ ks) = refl

-- ---- the resource of a position

-- The innermost resource of the chain is where the first of these tokens lead.
pub record IsHead (t : Tree) (ts : List (List ℕ)) (ch : Chain) : Type 0 where
  pub outer : List (List ℕ)
  pub inner : List (List ℕ)
  pub split : ts ≡ outer ++ inner
  pub place : (top t ch).1 ≡ place_after [] outer
  pub resource : Tree
  pub there : located form.Schema [] t outer ≡ Some ((top t ch).0, resource)

head_more : (t : Tree) (ts : List (List ℕ)) (ch : Chain) → IsHead t ts ch → (k : List ℕ) → IsHead t (ts ++ k ∷ []) ch
head_more t ts ch h k = record {
  outer = h.outer;
  inner = h.inner ++ k ∷ [];
  split = ap (λ x. x ++ k ∷ []) h.split ∙ append_assoc h.outer h.inner (k ∷ []);
  place = h.place;
  resource = h.resource;
  there = h.there;
}

-- tokens lead to the value w of the form f, which is at the place p with the base URI b around it
pub record IsThere (t : Tree) (f : Form) (b p : List ℕ) (w : Tree) (ts : List (List ℕ)) : Type 0 where
  pub chain : Chain
  pub at : IsAt t f b p w chain
  pub place : p ≡ place_after [] ts
  pub goes : (ls : List (List ℕ)) → located form.Schema [] t (ts ++ ls) ≡ located f b w ls
  pub head : IsHead t ts chain

module _ (t : Tree) where
  there_root : IsTree t → IsShort t → IsThere t form.Schema [] [] t []
  there_root h s = record {
    chain = [];
    at = at_root t h s;
    place = refl;
    goes = λ ls. refl;
    head = record { outer = []; inner = []; split = refl; place = refl; resource = t; there = refl };
  }

  -- the resource of what is in a schema
  head_own : (b p : List ℕ) (s : Tree) (ts : List (List ℕ)) (h : IsThere t form.Schema b p s ts) → IsHead t ts (own b p s h.chain)
  head_own b p s ts h = by s h.head h.place (sym (ap (located form.Schema [] t) (append-nil ts)) ∙ h.goes [])
    where
      by : (s : Tree) → IsHead t ts h.chain → p ≡ place_after [] ts → located form.Schema [] t ts ≡ Some (base_in b s, s)
          → IsHead t ts (own b p s h.chain)
      by (object ns) g e f = resource (is_resource p (object ns))
        where
          resource : (x : Bool) → IsHead t ts (cond x ((base_in b (object ns), p) ∷ h.chain) h.chain)
          resource true = record { outer = ts; inner = []; split = sym (append-nil ts); place = e; resource = object ns; there = f }
          resource false = g
      by _ g e f = g

  one_more : (f : Form) (b p : List ℕ) (w : Tree) (ts : List (List ℕ)) → IsThere t f b p w ts → (k : List ℕ) (v : Tree) (ch : Chain)
      → step w k ≡ Some v → IsAt t (form_in f k) (base_within f b w) (at_key p k) v ch → IsHead t ts ch
      → IsThere t (form_in f k) (base_within f b w) (at_key p k) v (ts ++ k ∷ [])
  one_more f b p w ts h k v ch e at head = record {
    chain = ch;
    at = at;
    place = ap (λ x. at_key x k) h.place ∙ sym (place_more [] ts k);
    goes = λ ls. ap (located form.Schema [] t) (append_assoc ts (k ∷ []) ls) ∙ (h.goes (k ∷ ls)
        ∙ ap (option_and_then (λ v. located (form_in f k) (base_within f b w) v ls)) e);
    head = head_more t ts ch head k;
  }

  there_member : (b p : List ℕ) (ns : Members) (ts : List (List ℕ)) → IsThere t form.Schema b p (object ns) ts → (k : List ℕ) (v : Tree)
      → find k ns ≡ Some v → IsThere t (form_at (encode_utf8_all k)) (base_in b (object ns)) (at_key p k) v (ts ++ k ∷ [])
  there_member b p ns ts h k v e = one_more form.Schema b p (object ns) ts h k v (own b p (object ns) h.chain) e
      (keyword_at t b p ns h.chain h.at k v e) (head_own b p (object ns) ts h)

  there_entry : (b p : List ℕ) (ns : Members) (ts : List (List ℕ)) → IsThere t form.SchemaMap b p (object ns) ts → (k : List ℕ) (v : Tree)
      → find k ns ≡ Some v → IsThere t form.Schema b (at_key p k) v (ts ++ k ∷ [])
  there_entry b p ns ts h k v e = one_more form.SchemaMap b p (object ns) ts h k v h.chain e (entry_at t b p ns h.chain h.at k v e) h.head

  there_map : (b p : List ℕ) (w : Tree) (ts : List (List ℕ)) → IsThere t form.PatternMap b p w ts → IsThere t form.SchemaMap b p w ts
  there_map b p w ts h = record {
    chain = h.chain;
    at = pattern_at t b p w h.chain h.at;
    place = h.place;
    goes = λ ls. h.goes ls ∙ same ls;
    head = h.head;
  }
    where
      same : (ls : List (List ℕ)) → located form.PatternMap b w ls ≡ located form.SchemaMap b w ls
      same [] = refl
      same (l ∷ ls) = refl

  there_item : (b p : List ℕ) (us : Items) (ts : List (List ℕ)) → IsThere t form.Schemas b p (array us) ts → (k : List ℕ) (i : ℕ) (v : Tree)
      → index_of k ≡ Some i → nth us i ≡ Some v → IsThere t form.Schema b (at_key p k) v (ts ++ k ∷ [])
  there_item b p us ts h k i v f e =
      let below = nth_count us i v e in
      let most = h.at.short.0 in
      let small : i < 2 ^ 64 = omega (arith, below, most) in
      let place : at_index p i ≡ at_key p k = sym (index_key p i small) ∙ ap (at_key p) (sym (index_decimal k i f small)) in
      one_more form.Schemas b p (array us) ts h k v h.chain (ap (item_of us) f ∙ e)
      (subst (λ q. IsAt t form.Schema b q v h.chain) place (item_at t b p us h.chain h.at i v e)) h.head

  -- the schema x is where the tokens lead
  abbrev pub IsEnd : List ℕ → List (List ℕ) → List ℕ × Tree → Type 0
  IsEnd p ts x = (d : List ℕ) × IsThere t form.Schema d p x.1 ts × (base_in d x.1 ≡ x.0)

  module _ (whole : Tree) (on : List ℕ → Bool → Tree → Bool) (to : Leads) where
    abbrev Walks : List (List ℕ) → Form → Type 0
    Walks ks f = (b p : List ℕ) (w : Tree) (ts : List (List ℕ)) → IsThere t f b p w ts → (q : List ℕ)
        → Fit whole f (form_pointed whole on to f b q w) → (x : List ℕ × Tree) → located f b w ks ≡ Some x
        → IsEnd (place_after p ks) (ts ++ ks) x

    -- after one token
    after : (k : List ℕ) (ks ts : List (List ℕ)) (p : List ℕ) (x : List ℕ × Tree)
        → IsEnd (place_after (at_key p k) ks) ((ts ++ k ∷ []) ++ ks) x
        → IsEnd (place_after p (k ∷ ks)) (ts ++ k ∷ ks) x
    after k ks ts p x h = subst (λ l. IsEnd (place_after p (k ∷ ks)) l x) (append_assoc ts (k ∷ []) ks) h

    by_member : (k : List ℕ) (ks : List (List ℕ)) (b p : List ℕ) (ns : Members) (ts : List (List ℕ)) (x : List ℕ × Tree)
        → IsThere t form.Schema b p (object ns) ts → Walks ks (form_at (encode_utf8_all k))
        → ((v : Tree) → find k ns ≡ Some v → is_live (form_at (encode_utf8_all k)) ≡ true
        → (q : List ℕ) × Fit whole (form_at (encode_utf8_all k)) (form_pointed whole on to (form_at (encode_utf8_all k))
        (base_in b (object ns)) q v))
        → option_and_then (λ v. located (form_at (encode_utf8_all k)) (base_in b (object ns)) v ks) (find k ns) ≡ Some x
        → IsEnd (place_after p (k ∷ ks)) (ts ++ k ∷ ks) x
    by_member k ks b p ns ts x h later fits e = by (find k ns) refl e
      where
        live : (v : Tree) → find k ns ≡ Some v → (y : Bool) → is_live (form_at (encode_utf8_all k)) ≡ y
            → located (form_at (encode_utf8_all k)) (base_in b (object ns)) v ks ≡ Some x → IsEnd (place_after p (k ∷ ks)) (ts ++ k ∷ ks) x
        live v f true g i = let q = fits v f g in
            after k ks ts p x (later (base_in b (object ns)) (at_key p k) v (ts ++ k ∷ []) (there_member b p ns ts h k v f) q.0 q.1 x i)
        live v f false g i = no_some x (sym (dead_located ks (form_at (encode_utf8_all k)) (base_in b (object ns)) v g) ∙ i)

        by : (o : Option Tree) → find k ns ≡ o
            → option_and_then (λ v. located (form_at (encode_utf8_all k)) (base_in b (object ns)) v ks) o ≡ Some x
            → IsEnd (place_after p (k ∷ ks)) (ts ++ k ∷ ks) x
        by None f g = no_some x g
        by (Some v) f g = live v f (is_live (form_at (encode_utf8_all k))) refl g

    by_entry : (k : List ℕ) (ks : List (List ℕ)) (b p : List ℕ) (ns : Members) (ts : List (List ℕ)) (x : List ℕ × Tree)
        → IsThere t form.SchemaMap b p (object ns) ts → Walks ks form.Schema
        → ((v : Tree) → find k ns ≡ Some v → (q : List ℕ) × Fit whole form.Schema (pointed to b q v))
        → option_and_then (λ v. located form.Schema b v ks) (find k ns) ≡ Some x → IsEnd (place_after p (k ∷ ks)) (ts ++ k ∷ ks) x
    by_entry k ks b p ns ts x h later fits e = by (find k ns) refl e
      where
        by : (o : Option Tree) → find k ns ≡ o → option_and_then (λ v. located form.Schema b v ks) o ≡ Some x
            → IsEnd (place_after p (k ∷ ks)) (ts ++ k ∷ ks) x
        by None f g = no_some x g
        by (Some v) f g = let q = fits v f in
            after k ks ts p x (later b (at_key p k) v (ts ++ k ∷ []) (there_entry b p ns ts h k v f) q.0 q.1 x g)

    by_item : (k : List ℕ) (ks : List (List ℕ)) (b p : List ℕ) (us : Items) (ts : List (List ℕ)) (x : List ℕ × Tree)
        → IsThere t form.Schemas b p (array us) ts → Walks ks form.Schema
        → ((i : ℕ) (v : Tree) → nth us i ≡ Some v → (q : List ℕ) × Fit whole form.Schema (pointed to b q v))
        → option_and_then (λ v. located form.Schema b v ks) (item_of us (index_of k)) ≡ Some x
        → IsEnd (place_after p (k ∷ ks)) (ts ++ k ∷ ks) x
    by_item k ks b p us ts x h later fits e = by (index_of k) refl e
      where
        at : (i : ℕ) → index_of k ≡ Some i → (o : Option Tree) → nth us i ≡ o → option_and_then (λ v. located form.Schema b v ks) o ≡ Some x
            → IsEnd (place_after p (k ∷ ks)) (ts ++ k ∷ ks) x
        at i f None g j = no_some x j
        at i f (Some v) g j = let q = fits i v g in
            after k ks ts p x (later b (at_key p k) v (ts ++ k ∷ []) (there_item b p us ts h k i v f g) q.0 q.1 x j)

        by : (o : Option ℕ) → index_of k ≡ o → option_and_then (λ v. located form.Schema b v ks) (item_of us o) ≡ Some x
            → IsEnd (place_after p (k ∷ ks)) (ts ++ k ∷ ks) x
        by None f g = no_some x g
        by (Some i) f g = at i f (nth us i) refl g

    entry_fits : (b q k : List ℕ) (ns : Members) → Fit whole form.SchemaMap (form_pointed whole on to form.SchemaMap b q (object ns))
        → (v : Tree)
        → find k ns ≡ Some v → (q : List ℕ) × Fit whole form.Schema (pointed to b q v)
    entry_fits b q k ns fit v e = (
      at_key q k,
      fit_entry whole k (pointed_members to b q ns) (pointed to b (at_key q k) v) fit
          (find_pointed whole on to b q k ns ∙ ap (option_map (pointed to b (at_key q k))) e),
    )

    walk : (ks : List (List ℕ)) (f : Form) → Walks ks f
    walk [] form.Schema b p w ts h q fit x e =
        let pair : (base_in b w, w) ≡ x = same_Some (base_in b w, w) x e in
        subst (IsEnd p (ts ++ [])) pair (b, subst (IsThere t form.Schema b p w) (sym (append-nil ts)) h, refl)
    walk [] _ b p w ts h q fit x e = no_some x e
    walk (k ∷ ks) form.Schema b p (object ns) ts h q fit x e = by_member k ks b p ns ts x h (walk ks (form_at (encode_utf8_all k)))
        (λ v g l. (
          at_key q k,
          fit_member whole k (pointed_among to (base_in b (object ns)) q ns) _ fit.0 fit.1
              (found_pointed to (base_in b (object ns)) q k ns (live_kept whole on to (form_at (encode_utf8_all k)) l)
              ∙ (ap (option_map (changed to (base_in b (object ns)) q k)) g
              ∙ ap Some (live_changed whole on to (form_at (encode_utf8_all k)) (base_in b (object ns)) (at_key q k) v _ l))),
        )) e
    walk (k ∷ ks) form.Schema b p (boolean y) ts h q fit x e = no_some x e
    walk (k ∷ ks) form.Schema b p _ ts h q fit x e = absurd (true≢false (sym fit.1))
    walk (k ∷ ks) form.Schemas b p (array us) ts h q fit x e = by_item k ks b p us ts x h (walk ks form.Schema)
        (λ i v g. let n = nth_pointed whole on to b q 0 us i in (
          n.0,
          fit_item whole (pointed_items to b q 0 us) i (pointed to b n.0 v)
              (and_parts (is_some_item (pointed_items to b q 0 us)) _ fit).1 (n.1 ∙ ap (option_map (pointed to b n.0)) g),
        )) e
    walk (k ∷ ks) form.Schemas b p _ ts h q fit x e = absurd (true≢false (sym fit))
    walk (k ∷ ks) form.SchemaMap b p (object ns) ts h q fit x e = by_entry k ks b p ns ts x h (walk ks form.Schema)
        (entry_fits b q k ns fit) e
    walk (k ∷ ks) form.SchemaMap b p _ ts h q fit x e = absurd (true≢false (sym fit))
    walk (k ∷ ks) form.PatternMap b p (object ns) ts h q fit x e =
        by_entry k ks b p ns ts x (there_map b p (object ns) ts h) (walk ks form.Schema) (entry_fits b q k ns fit) e
    walk (k ∷ ks) form.PatternMap b p _ ts h q fit x e = absurd (true≢false (sym fit))
    walk (k ∷ ks) f b p w ts h q fit x e = no_some x (sym (dead_located (k ∷ ks) f b w refl) ∙ e)

-- ---- tokens from the root

module _ (ms : Members) (copies : List Reached) (few : length copies < 2 ^ 64)
    (fit : is_schema (whole (object ms) copies) true (whole (object ms) copies) ≡ true) (sound : IsTree (object ms))
    (on : List ℕ → Bool → Tree → Bool) (lead : lead_in on [] (object ms) ≡ true) (short : IsShort (object ms)) where
  abbrev t : Tree
  t = object ms

  abbrev in_whole : Tree
  in_whole = whole t copies

  abbrev to_main : Leads
  to_main = leading t copies from_root

  by_defs : (ks : List (List ℕ)) (x : List ℕ × Tree) → located form.Schema [] t (defs ∷ ks) ≡ Some x
      → IsEnd t (place_after [] (defs ∷ ks)) (defs ∷ ks) x
  by_defs ks x e = by (find defs ms) refl (sym (ap (λ f. option_and_then (λ v. located f (base_in [] (object ms)) v ks) (find defs ms))
      (form_named kw.Defs)) ∙ e)
    where
      w : (ws : Members) × IsWhole ms copies ws
      w = is_whole ms copies fit

      entry : (ks : List (List ℕ)) (ds : Members) → find defs ms ≡ Some (object ds)
          → located form.SchemaMap (base_in [] (object ms)) (object ds) ks ≡ Some x
          → IsEnd (object ms) (place_after [] (defs ∷ ks)) (defs ∷ ks) x
      entry [] ds f h = no_some x h
      entry (l ∷ ks) ds f h = by_entry (object ms) in_whole on to_main l ks (base_in [] (object ms)) (at_key [] defs) ds (defs ∷ []) x
          (subst (λ g. IsThere (object ms) g (base_in [] (object ms)) (at_key [] defs) (object ds) (defs ∷ [])) (form_named kw.Defs)
          (there_member (object ms) [] [] ms [] (there_root (object ms) sound short) defs (object ds) f))
          (walk (object ms) in_whole on to_main ks form.Schema)
          (λ v g. (
            at_key (codes "/$defs") l,
            entries_fit ms copies few fit sound on lead w.0 w.1 (made ms copies w.1.old)
                (map_is ms copies few fit sound on lead w.0 w.1 (object ds) f) l
                (pointed to_main (base_in [] (object ms)) (at_key (codes "/$defs") l) v)
                (entry_is ms copies few fit sound on lead w.0 w.1 l ds v f g),
          )) h

      by : (o : Option Tree) → find defs ms ≡ o
          → option_and_then (λ v. located form.SchemaMap (base_in [] (object ms)) v ks) o ≡ Some x
          → IsEnd (object ms) (place_after [] (defs ∷ ks)) (defs ∷ ks) x
      by None f h = no_some x h
      by (Some v) f h = let is = w.1.map v f in
          entry ks (members_in v) (f ∙ ap Some is) (sym (ap (λ y. located form.SchemaMap (base_in [] (object ms)) y ks) is) ∙ h)

  pub walk_root : (ks : List (List ℕ)) (x : List ℕ × Tree) → located form.Schema [] t ks ≡ Some x → IsEnd t (place_after [] ks) ks x
  walk_root [] x e =
      let pair : (base_in [] t, t) ≡ x = same_Some (base_in [] t, t) x e in
      subst (IsEnd t [] []) pair ([], there_root t sound short, refl)
  walk_root (k ∷ ks) x e = by (bytes_eq k defs) refl
    where
      w : (ws : Members) × IsWhole ms copies ws
      w = is_whole ms copies fit

      by : (b : Bool) → bytes_eq k defs ≡ b → IsEnd (object ms) (place_after [] (k ∷ ks)) (k ∷ ks) x
      by true h = let is : k ≡ defs = (bytes_eq-Decides k defs).0 h in
          subst (λ l. IsEnd (object ms) (place_after [] (l ∷ ks)) (l ∷ ks) x) (sym is)
          (by_defs ks x (ap (λ l. located form.Schema [] (object ms) (l ∷ ks)) (sym is) ∙ e))
      by false h = by_member (object ms) in_whole on to_main k ks [] [] ms [] x (there_root (object ms) sound short)
          (walk (object ms) in_whole on to_main ks (form_at (encode_utf8_all k)))
          (λ v g l. (
            at_key [] k,
            members_fit ms copies few fit sound on lead w.0 w.1 k
                (form_pointed in_whole on to_main (form_at (encode_utf8_all k)) (base_in [] (object ms)) (at_key [] k) v)
                (w.1.others k (λ is. true≢false (sym ((bytes_eq-Decides k defs).1 is) ∙ h))
                ∙ (found_pointed to_main (base_in [] (object ms)) [] k ms (live_kept in_whole on to_main (form_at (encode_utf8_all k)) l)
                ∙ (ap (option_map (changed to_main (base_in [] (object ms)) [] k)) g
                ∙ ap Some (live_changed in_whole on to_main (form_at (encode_utf8_all k)) (base_in [] (object ms)) (at_key [] k) v _ l)))),
          )) e

  -- the schema to which tokens lead has a resource, where the first of them lead
  pub homed : (q : List ℕ) (x : List ℕ × Tree) (ks : List (List ℕ)) → AreScalars ks → q ≡ place_after [] ks
      → located form.Schema [] t ks ≡ Some x → IsHomed t q x
  homed q x ks s e l = subst (λ p. IsHomed t p x) (sym e) (by (walk_root ks x l))
    where
      at : (end : IsEnd (object ms) (place_after [] ks) ks x)
          → IsHead (object ms) ks (own end.0 (place_after [] ks) x.1 end.1.chain) → IsHomed (object ms) (place_after [] ks) x
      at end head =
          let uri : (home (marks_of (object ms)) (base_in [] (object ms)) (place_after [] ks)).0 ≡ x.0
          = home_base (object ms) end.0 (place_after [] ks) x.1 end.1.chain end.1.at ∙ end.2 in
          let entry : (home (marks_of (object ms)) (base_in [] (object ms)) (place_after [] ks)).1 ≡ place_after [] head.outer
          = ap (λ y. y.1) (home_first (object ms) end.0 (place_after [] ks) x.1 end.1.chain end.1.at) ∙ head.place in
          let parts : place_after [] ks ≡ place_after [] head.outer ++ text_of head.inner = ap (place_after []) head.split
          ∙ (place_both [] head.outer head.inner ∙ place_text (place_after [] head.outer) head.inner) in
          record {
            outer = head.outer;
            inner = head.inner;
            scalars = subst AreScalars head.split s;
            place = ap (place_after []) head.split;
            is = ap (located form.Schema [] (object ms)) (sym head.split) ∙ l;
            resource = head.resource;
            around = head.there ∙ ap (λ u. Some (u, head.resource))
                (own_base (object ms) end.0 (place_after [] ks) x.1 end.1.chain end.1.at ∙ end.2);
            uri = uri;
            entry = entry;
            rest = ap (λ o. unwrap_or o []) ((λ i. below (entry i) (parts i))
                ∙ below_rest (place_after [] head.outer) (text_of head.inner) (text_begins head.inner));
            again = ap (λ y. y.0) (home_again (object ms) end.0 (place_after [] ks) x.1 end.1.chain end.1.at) ∙ uri;
            begins = end.1.at.begins;
            contains = home_contains (object ms) end.0 (place_after [] ks) x.1 end.1.chain end.1.at;
            own = λ c. scope_reached (object ms) end.0 (place_after [] ks) x.1 end.1.chain end.1.at c;
          }

      by : IsEnd (object ms) (place_after [] ks) ks x → IsHomed (object ms) (place_after [] ks) x
      by end = at end (head_own (object ms) end.0 (place_after [] ks) x.1 ks end.1)

  -- the position of a schema to which tokens lead
  pub position : (q : List ℕ) (x : List ℕ × Tree) (ks : List (List ℕ)) → q ≡ place_after [] ks → located form.Schema [] t ks ≡ Some x
      → (d : List ℕ) × (ch : Chain) × IsAt t form.Schema d q x.1 ch × (base_in d x.1 ≡ x.0)
  position q x ks e l = by (walk_root ks x l)
    where
      by : IsEnd (object ms) (place_after [] ks) ks x
          → (d : List ℕ) × (ch : Chain) × IsAt (object ms) form.Schema d q x.1 ch × (base_in d x.1 ≡ x.0)
      by end = (end.0, end.1.chain, subst (λ p. IsAt (object ms) form.Schema end.0 p x.1 end.1.chain) (sym e) end.1.at, end.2)
