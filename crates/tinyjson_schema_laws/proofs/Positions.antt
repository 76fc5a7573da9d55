-- Positions in a document: schemas, and lists and objects of schemas, with the resources that contain them.
use Rattle.std.proofs.Common.{◌≡◌, ℕ, zero, suc, ◌<◌, ◌^◌, Bool, true, false, List, [], ◌∷◌, ◌++◌}
use Rattle.std.proofs.Common.{Option, Some, None, cond, refl, sym, ap, ◌∙◌, true≢false, arith, encode_utf8_all}
use Rattle.std.proofs.lemmas.Bool.{or_parts, false_from_ne_true}
use Rattle.std.specs.Fmt.{decimal}
use Rattle.std.specs.Option.{option_map_or}
use Rattle.std.specs.Prelude.{⊤}
use Rattle.tinyjson.specs.Access.{is_string}
use Rattle.tinyjson.specs.Index.{nth, item_count}
use Rattle.tinyjson.specs.Tree.{Tree, string, array, object, Items, no_items, item, Members, find}
use Rattle.tinyjson_grammar.specs.Soundness.{IsTree}
use Rattle.tinyjson_schema_keywords.specs.Applied.{schema_at}
use Rattle.tinyjson_schema_keywords.specs.Forms.{form_at}
use Rattle.tinyjson_schema_keywords.specs.References.{is_schema_form}
use Rattle.tinyjson_schema_keywords.specs.declared.keyword.Form.{Form}
use Rattle.tinyjson_schema_keywords.specs.declared.keyword.Form.TheVariants as form
use Rattle.tinyjson_schema_keywords.specs.declared.keyword.Keyword.TheVariants as kw
use Rattle.tinyjson_schema_bundle.specs.Bundles.{token_text, at_key, at_index, begins_pointer}
use Rattle.tinyjson_schema_bundle.specs.Bundles.{is_empty, base_by, base_in, is_resource}
use Rattle.tinyjson_schema_bundle.specs.Bundles.{resource_marks, marks_in, marks_among, marks_within, marks_of}
use Rattle.tinyjson_schema_bundle.specs.Scopes.{is_within}
use Rattle.tinyjson_schema_bundle.specs.declared.mark.Kind.TheVariants as kind
use Rattle.tinyjson_schema_laws.proofs.Containing.{IsShort, nth_short, found_short, Chain, enclosing}
use Rattle.tinyjson_schema_laws.proofs.Containing.{enclosing_both, outside_among, no_tree}
use Rattle.tinyjson_schema_laws.proofs.Containing.{found_among, found_items, found_members, within_itself, within_within, within_key}
use Rattle.tinyjson_schema_laws.proofs.Containing.{within_index, not_above, begins_both as begins_more}
use Rattle.tinyjson_schema_laws.proofs.Walk.{found_sound, nth_sound}

-- ---- chains of resources

-- each resource contains the place, and the place none of them
abbrev pub IsUnder : List ℕ → Chain → Type 0
IsUnder p [] = ⊤
IsUnder p (x ∷ ch) = (is_within x.1 p ≡ true) × (is_within p x.1 ≡ false) × IsUnder p ch

-- each resource is in the next one
abbrev pub IsNested : Chain → Type 0
IsNested [] = ⊤
IsNested (x ∷ ch) = IsUnder x.1 ch × IsNested ch

pub under_more : (p q : List ℕ) (ch : Chain) → is_within p q ≡ true → IsUnder p ch → IsUnder q ch
under_more p q [] h u = tt
under_more p q (x ∷ ch) h u = (
  within_within x.1 p q u.0 h,
  false_from_ne_true (is_within q x.1) (λ g. true≢false (sym (within_within p q x.1 h g) ∙ u.1)),
  under_more p q ch h u.2,
)

-- the resources that contain what is in the schema s at p, given those that contain s
abbrev pub own : List ℕ → List ℕ → Tree → Chain → Chain
own d p (object ms) ch = cond (is_resource p (object ms)) ((base_in d (object ms), p) ∷ ch) ch
own d p _ ch = ch

-- ---- positions

module _ (t : Tree) where
  -- the innermost resource
  abbrev pub top : Chain → List ℕ × List ℕ
  top [] = (base_in [] t, [])
  top (x ∷ ch) = x

  -- The value w of the form f is at the place p of the document, with the base URI d around it, and the resources ch
  -- contain it.
  pub record IsAt (f : Form) (d p : List ℕ) (w : Tree) (ch : Chain) : Type 0 where
    pub sound : IsTree w
    pub short : IsShort w
    pub begins : begins_pointer p ≡ true
    pub inside : (q : List ℕ) → is_within p q ≡ true → enclosing q (marks_of t) [] ≡ enclosing q (marks_within f d p w) ch
    pub under : IsUnder p ch
    pub nested : IsNested ch
    pub deep : is_schema_form f ≡ false → is_empty p ≡ false
    pub based : is_empty p ≡ false → (top ch).0 ≡ d
    pub root : is_empty p ≡ true → (top ch).0 ≡ base_in d w

  pub at_root : IsTree t → IsShort t → IsAt form.Schema [] [] t []
  at_root h s = record {
    sound = h;
    short = s;
    begins = refl;
    inside = λ q e. refl;
    under = tt;
    nested = tt;
    deep = λ e. absurd (true≢false e);
    based = λ e. absurd (true≢false e);
    root = λ e. refl;
  }

  base_kept : (d : List ℕ) (o : Option Tree) → option_map_or is_string o false ≡ false → base_by d o ≡ d
  base_kept d None h = refl
  base_kept d (Some (string cs)) h = absurd (true≢false h)
  base_kept d (Some _) h = refl

  not_empty : (p x : List ℕ) → is_empty (p ++ 47 ∷ x) ≡ false
  not_empty [] x = refl
  not_empty (c ∷ p) x = refl

  no_root : (p x : List ℕ) {A : Type 0} → is_empty (p ++ 47 ∷ x) ≡ true → A
  no_root p x h = absurd (true≢false (sym h ∙ not_empty p x))

  module _ (d p : List ℕ) (s : Tree) (ch : Chain) (at : IsAt form.Schema d p s ch) where
    -- the base URI in a schema is the URI of the innermost resource
    pub own_base : (top (own d p s ch)).0 ≡ base_in d s
    own_base = by s at.root
      where
        outer : (s : Tree) → (is_empty p ≡ true → (top ch).0 ≡ base_in d s) → base_in d s ≡ d → (b : Bool) → is_empty p ≡ b
            → (top ch).0 ≡ base_in d s
        outer s g h true e = g e
        outer s g h false e = at.based e ∙ sym h

        resource : (ms : Members) → (x : Bool) → is_resource p (object ms) ≡ x
            → (top (cond x ((base_in d (object ms), p) ∷ ch) ch)).0 ≡ base_in d (object ms)
        resource ms true e = refl
        resource ms false e =
            let both = or_parts (is_empty p) (option_map_or is_string (schema_at (object ms) kw.Id) false) e in
            at.based both.0 ∙ sym (base_kept d (schema_at (object ms) kw.Id) both.1)

        by : (s : Tree) → (is_empty p ≡ true → (top ch).0 ≡ base_in d s) → (top (own d p s ch)).0 ≡ base_in d s
        by (object ms) g = resource ms (is_resource p (object ms)) refl
        by s g = outer s g refl (is_empty p) refl

    own_here : (ms : Members) (q : List ℕ) → is_within p q ≡ true
        → enclosing q (resource_marks (base_in d (object ms)) p (object ms)) ch ≡ own d p (object ms) ch
    own_here ms q h = by (is_resource p (object ms))
      where
        by : (x : Bool) → enclosing q (cond x ((kind.Resource, base_in d (object ms), p) ∷ []) []) ch
            ≡ cond x ((base_in d (object ms), p) ∷ ch) ch
        by true = ap (λ y. cond y ((base_in d (object ms), p) ∷ ch) ch) h
        by false = refl

    -- the resources that contain the schema, and its own
    pub chain_here : enclosing p (marks_of t) [] ≡ own d p s ch
    chain_here = at.inside p (within_itself p) ∙ by s
      where
        by : (s : Tree) → enclosing p (marks_in d p s) ch ≡ own d p s ch
        by (object ms) = enclosing_both p (resource_marks (base_in d (object ms)) p (object ms))
            (marks_among (base_in d (object ms)) p ms) ch
            ∙ (outside_among p (base_in d (object ms)) p ms (λ l. not_above p l)
            (enclosing p (resource_marks (base_in d (object ms)) p (object ms)) ch) ∙ own_here ms p (within_itself p))
        by _ = refl

    own_under : (q : List ℕ) → is_within p q ≡ true → is_within q p ≡ false → IsUnder q (own d p s ch)
    own_under q h g = by s
      where
        resource : (b : List ℕ) (x : Bool) → IsUnder q (cond x ((b, p) ∷ ch) ch)
        resource b true = (h, g, under_more p q ch h at.under)
        resource b false = under_more p q ch h at.under

        by : (s : Tree) → IsUnder q (own d p s ch)
        by (object ms) = resource (base_in d (object ms)) (is_resource p (object ms))
        by _ = under_more p q ch h at.under

    pub own_nested : IsNested (own d p s ch)
    own_nested = by s
      where
        resource : (b : List ℕ) (x : Bool) → IsNested (cond x ((b, p) ∷ ch) ch)
        resource b true = (at.under, at.nested)
        resource b false = at.nested

        by : (s : Tree) → IsNested (own d p s ch)
        by (object ms) = resource (base_in d (object ms)) (is_resource p (object ms))
        by _ = at.nested

  -- the value of a keyword
  pub keyword_at : (d p : List ℕ) (ms : Members) (ch : Chain) → IsAt form.Schema d p (object ms) ch → (k : List ℕ) (w : Tree)
      → find k ms ≡ Some w
      → IsAt (form_at (encode_utf8_all k)) (base_in d (object ms)) (at_key p k) w (own d p (object ms) ch)
  keyword_at d p ms ch at k w e = record {
    sound = found_sound k ms w at.sound.0 e;
    short = found_short k ms w at.short e;
    begins = begins_more p (47 ∷ token_text k) at.begins refl;
    inside = λ q h.
        at.inside q (within_within p (at_key p k) q (within_key p k) h)
        ∙ (enclosing_both q (resource_marks (base_in d (object ms)) p (object ms)) (marks_among (base_in d (object ms)) p ms) ch
        ∙ (found_among q (base_in d (object ms)) p k h ms w at.sound.1 e
        (enclosing q (resource_marks (base_in d (object ms)) p (object ms)) ch)
        ∙ ap (enclosing q (marks_within (form_at (encode_utf8_all k)) (base_in d (object ms)) (at_key p k) w))
        (own_here d p (object ms) ch at ms q (within_within p (at_key p k) q (within_key p k) h))));
    under = own_under d p (object ms) ch at (at_key p k) (within_key p k) (not_above p k);
    nested = own_nested d p (object ms) ch at;
    deep = λ h. not_empty p (token_text k);
    based = λ h. own_base d p (object ms) ch at;
    root = λ h. no_root p (token_text k) h;
  }

  nth_below : (ts : Items) (i : ℕ) (v : Tree) → nth ts i ≡ Some v → i < item_count ts
  nth_below no_items i v e = absurd (no_tree v e)
  nth_below (item u ts) zero v e = omega arith
  nth_below (item u ts) (suc i) v e = omega (arith, nth_below ts i v e)

  -- an item of a list
  pub item_at : (d p : List ℕ) (ts : Items) (ch : Chain) → IsAt form.Schemas d p (array ts) ch → (i : ℕ) (v : Tree) → nth ts i ≡ Some v
      → IsAt form.Schema d (at_index p i) v ch
  item_at d p ts ch at i v e = record {
    sound = nth_sound ts i v at.sound e;
    short = nth_short ts i v at.short.1 e;
    begins = begins_more p (47 ∷ decimal i) at.begins refl;
    inside = λ q h.
        at.inside q (within_within p (at_index p i) q (within_index p i) h)
        ∙ found_items q d p i small h 0 ts i v (omega arith) (omega (arith, at.short.0)) e ch;
    under = under_more p (at_index p i) ch (within_index p i) at.under;
    nested = at.nested;
    deep = λ h. absurd (true≢false h);
    based = λ h. at.based (at.deep refl);
    root = λ h. no_root p (decimal i) h;
  }
    where
      small : i < 2 ^ 64
      small = omega (arith, nth_below ts i v e, at.short.0)

  -- an entry of an object
  pub entry_at : (d p : List ℕ) (ms : Members) (ch : Chain) → IsAt form.SchemaMap d p (object ms) ch → (k : List ℕ) (v : Tree)
      → find k ms ≡ Some v → IsAt form.Schema d (at_key p k) v ch
  entry_at d p ms ch at k v e = record {
    sound = found_sound k ms v at.sound.0 e;
    short = found_short k ms v at.short e;
    begins = begins_more p (47 ∷ token_text k) at.begins refl;
    inside = λ q h.
        at.inside q (within_within p (at_key p k) q (within_key p k) h) ∙ found_members q d p k h ms v at.sound.1 e ch;
    under = under_more p (at_key p k) ch (within_key p k) at.under;
    nested = at.nested;
    deep = λ h. absurd (true≢false h);
    based = λ h. at.based (at.deep refl);
    root = λ h. no_root p (token_text k) h;
  }

  pub pattern_at : (d p : List ℕ) (w : Tree) (ch : Chain) → IsAt form.PatternMap d p w ch → IsAt form.SchemaMap d p w ch
  pattern_at d p w ch at = record {
    sound = at.sound;
    short = at.short;
    begins = at.begins;
    inside = at.inside;
    under = at.under;
    nested = at.nested;
    deep = at.deep;
    based = at.based;
    root = at.root;
  }
