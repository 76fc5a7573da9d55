-- Places within places, and the resources that contain a place.
use Rattle.std.proofs.Common.{◌≡◌, ℕ, zero, suc, ◌+◌, ◌<◌, ◌≤◌, ◌^◌, Bool, true, false, ◌&&◌, ◌==◌, List, [], ◌∷◌, ◌++◌, nat_le}
use Rattle.std.proofs.Common.{Some, None, length, take, drop, get_or, is_some, cond}
use Rattle.std.proofs.Common.{refl, sym, ap, ◌∙◌, true≢false, bytes_eq, subst}
use Rattle.std.proofs.Common.{take-append-drop, append_assoc, append-nil, length-append, codes, arith, eqb-true, eq-eqb, encode_utf8_all}
use Rattle.std.proofs.lemmas.Bool.{and_parts, and_from, false_from_ne_true, leb-true}
use Rattle.std.proofs.lemmas.Fmt.{digits_decimal, decimal_injective}
use Rattle.std.proofs.lemmas.List.{append_cancel_left}
use Rattle.std.proofs.lemmas.Option.{same_Some}
use Rattle.std.proofs.lemmas.Slice.Eq.{bytes_eq-Decides}
use Rattle.std.proofs.lemmas.Str.{encode_same, encode_ascii, char_from_byte, length-encode, len_utf8_bounds}
use Rattle.std.proofs.lemmas.Str.Parse.{IsNumeralModel, numerals_by_value, tells_all_ascii_digits}
use Rattle.std.specs.Char.{is_ascii_digit}
use Rattle.std.specs.Fmt.{decimal}
use Rattle.std.specs.Str.{all_ascii_digits}
use Rattle.std.specs.Str.Parse.{digits_value}
use lib.Utf8.{encode}
use lib.Seq.{take-append_seam, drop-append_seam}
use Rattle.tinyjson.proofs.Callers.{find_below}
use Rattle.tinyjson.specs.Index.{nth, item_count}
use Rattle.tinyjson.specs.Tree.{Tree, string, array, object, Items, no_items, item, Members, no_members, member, find}
use Rattle.tinyjson_grammar.specs.Soundness.{IsSorted}
use Rattle.tinyjson_schema_keywords.specs.Forms.{form_at}
use Rattle.tinyjson_schema_keywords.specs.Names.{name}
use Rattle.tinyjson_schema_keywords.specs.declared.keyword.Form.{Form}
use Rattle.tinyjson_schema_keywords.specs.declared.keyword.Form.TheVariants as form
use Rattle.tinyjson_schema_keywords.specs.declared.keyword.Keyword.TheVariants as kw
pub use Rattle.tinyjson_schema_laws.specs.Short.{IsShort, AreShort, HaveShort}
use Rattle.tinyjson_schema_bundle.specs.Bundles.{Marked, token_char, token_text, at_key, at_index, begins_pointer, base_in, is_resource}
use Rattle.tinyjson_schema_bundle.specs.Bundles.{resource_marks, name_kind, name_marks, with_name, is_fragment, reference_marks, marks_by}
use Rattle.tinyjson_schema_bundle.specs.Bundles.{marks_in, marks_among, marks_in_list, marks_in_map, marks_of_items, marks_of_members}
use Rattle.tinyjson_schema_bundle.specs.Bundles.{marks_within}
use Rattle.tinyjson_schema_bundle.specs.Scopes.{is_within, is_resource_mark}
use Rattle.tinyjson_schema_bundle.specs.declared.mark.Kind.TheVariants as kind

-- ---- a place within another one

pub within_from : (p r : List ℕ) → begins_pointer r ≡ true → is_within p (p ++ r) ≡ true
within_from p r h = ap (λ b. is_some (cond b (Some (drop (length p) (p ++ r))) None))
    (and_from _ _ ((bytes_eq-Decides (take (length p) (p ++ r)) p).1 (take-append_seam p r)) (ap begins_pointer (drop-append_seam p r) ∙ h))

abbrev pub Within : List ℕ → List ℕ → Type 0
Within p q = (r : List ℕ) × (q ≡ p ++ r) × (begins_pointer r ≡ true)

pub within_to : (p q : List ℕ) → is_within p q ≡ true → Within p q
within_to p q h = by (bytes_eq (take (length p) q) p && begins_pointer (drop (length p) q)) refl h
  where
    by : (b : Bool) → (bytes_eq (take (length p) q) p && begins_pointer (drop (length p) q)) ≡ b
        → is_some (cond b (Some (drop (length p) q)) None) ≡ true → Within p q
    by true e g =
        let both = and_parts (bytes_eq (take (length p) q) p) (begins_pointer (drop (length p) q)) e in (
          drop (length p) q,
          sym (take-append-drop (length p) q) ∙ ap (λ x. x ++ drop (length p) q)
              ((bytes_eq-Decides (take (length p) q) p).0 both.0),
          both.1,
        )
    by false e g = absurd (true≢false (sym g))

pub within_made : (p q : List ℕ) → Within p q → is_within p q ≡ true
within_made p q w = ap (is_within p) w.1 ∙ within_from p w.0 w.2

pub within_itself : (p : List ℕ) → is_within p p ≡ true
within_itself p = within_made p p ([], sym (append-nil p), refl)

pub begins_both : (r s : List ℕ) → begins_pointer r ≡ true → begins_pointer s ≡ true → begins_pointer (r ++ s) ≡ true
begins_both [] s h g = g
begins_both (c ∷ r) s h g = h

pub within_within : (p q r : List ℕ) → is_within p q ≡ true → is_within q r ≡ true → is_within p r ≡ true
within_within p q r h g =
    let a = within_to p q h in
    let b = within_to q r g in
    within_made p r (a.0 ++ b.0, b.1 ∙ (ap (λ x. x ++ b.0) a.1 ∙ append_assoc p a.0 b.0), begins_both a.0 b.0 a.2 b.2)

begins_front : (p r : List ℕ) → begins_pointer (p ++ r) ≡ true → begins_pointer p ≡ true
begins_front [] r h = refl
begins_front (c ∷ p) r h = h

pub within_begins : (p q : List ℕ) → is_within p q ≡ true → begins_pointer q ≡ true → begins_pointer p ≡ true
within_begins p q h g =
    let a = within_to p q h in
    begins_front p a.0 (sym (ap begins_pointer a.1) ∙ g)

-- ---- keys

pub within_key : (p k : List ℕ) → is_within p (at_key p k) ≡ true
within_key p k = within_from p (47 ∷ token_text k) refl

longer_front : (p x : List ℕ) → p ≡ p ++ 47 ∷ x → ⊥
longer_front p x e = let h = ap length e ∙ length-append p (47 ∷ x) in omega (arith, h)

pub not_above : (p k : List ℕ) → is_within (at_key p k) p ≡ false
not_above p k = false_from_ne_true (is_within (at_key p k) p) (λ h.
    let a = within_to (at_key p k) p h in
    longer_front p (token_text k ++ a.0) (a.1 ∙ append_assoc p (47 ∷ token_text k) a.0))

-- ---- tokens

-- no character of a token begins with a `/`
no_solidus : (c : ℕ) (r : List ℕ) → (c == 47) ≡ false → begins_pointer (encode c ++ r) ≡ false
no_solidus c r e = false_from_ne_true (begins_pointer (encode c ++ r)) (λ h. by (encode c ++ r) refl h)
  where
    by : (bs : List ℕ) → encode c ++ r ≡ bs → begins_pointer bs ≡ true → ⊥
    by [] g h = let a = ap length g in
        omega (arith, a, length-append (encode c) r, length-encode c, (len_utf8_bounds c).0)
    by (b ∷ bs) g h =
        let is : b ≡ 47 = eqb-true b 47 h in
        let same : c ≡ b = char_from_byte (b ∷ bs) r c (sym g) (omega (arith, is)) (omega arith) in
        true≢false (sym (ap (λ x. x == 47) (same ∙ is)) ∙ e)

char_begins : (c : ℕ) (r : List ℕ) → begins_pointer (token_char c ++ r) ≡ false
char_begins c r = by (c == 37) (c == 126) (c == 47) refl
  where
    by : (x y z : Bool) → (c == 47) ≡ z
        → begins_pointer (cond x (codes "%25") (cond y (codes "~0") (cond z (codes "~1") (encode_utf8_all (c ∷ [])))) ++ r) ≡ false
    by true y z e = refl
    by false true z e = refl
    by false false true e = refl
    by false false false e = ap (λ x. begins_pointer (x ++ r)) (append-nil (encode c)) ∙ no_solidus c r e

-- a character, or what stands for it
module _ (c d : ℕ) (r s : List ℕ) where
  abbrev Same : Type 0
  Same = (c ≡ d) × (r ≡ s)

  abbrev shown : ℕ → Bool → Bool → Bool → List ℕ
  shown e x y z = cond x (codes "%25") (cond y (codes "~0") (cond z (codes "~1") (encode_utf8_all (e ∷ []))))

  plain : encode c ++ [] ++ r ≡ encode d ++ [] ++ s → Same
  plain e = encode_same c d r s (sym (append_assoc (encode c) [] r) ∙ (e ∙ append_assoc (encode d) [] s))

  other : (c n : ℕ) (r s : List ℕ) → n < 128 → (c == n) ≡ false → encode c ++ [] ++ r ≡ n ∷ s → ⊥
  other c n r s l f e =
      let is : c ≡ n = (encode_same c n r s (sym (append_assoc (encode c) [] r) ∙ (e ∙ ap (λ x. x ++ s) (sym (encode_ascii n l))))).0 in
      true≢false (sym (ap (λ x. x == n) is ∙ eq-eqb n n refl) ∙ f)

  same_char : (x y z u v w : Bool) → (c == 37) ≡ x → (c == 126) ≡ y → (c == 47) ≡ z → (d == 37) ≡ u → (d == 126) ≡ v → (d == 47) ≡ w
      → shown c x y z ++ r ≡ shown d u v w ++ s → Same
  same_char true y z true v w a b f g h k e =
      (eqb-true c 37 a ∙ sym (eqb-true d 37 g), append_cancel_left (codes "%25") r s e)
  same_char true y z false true w a b f g h k e = absurd (let n : 37 ≡ 126 = ap (λ l. get_or l 0 0) e in omega (arith, n))
  same_char true y z false false true a b f g h k e = absurd (let n : 37 ≡ 126 = ap (λ l. get_or l 0 0) e in omega (arith, n))
  same_char true y z false false false a b f g h k e = absurd (other d 37 s (50 ∷ 53 ∷ r) (omega arith) g (sym e))
  same_char false true z true v w a b f g h k e = absurd (let n : 126 ≡ 37 = ap (λ l. get_or l 0 0) e in omega (arith, n))
  same_char false true z false true w a b f g h k e =
      (eqb-true c 126 b ∙ sym (eqb-true d 126 h), append_cancel_left (codes "~0") r s e)
  same_char false true z false false true a b f g h k e = absurd (let n : 48 ≡ 49 = ap (λ l. get_or l 1 0) e in omega (arith, n))
  same_char false true z false false false a b f g h k e = absurd (other d 126 s (48 ∷ r) (omega arith) h (sym e))
  same_char false false true true v w a b f g h k e = absurd (let n : 126 ≡ 37 = ap (λ l. get_or l 0 0) e in omega (arith, n))
  same_char false false true false true w a b f g h k e = absurd (let n : 49 ≡ 48 = ap (λ l. get_or l 1 0) e in omega (arith, n))
  same_char false false true false false true a b f g h k e =
      (eqb-true c 47 f ∙ sym (eqb-true d 47 k), append_cancel_left (codes "~1") r s e)
  same_char false false true false false false a b f g h k e = absurd (other d 126 s (49 ∷ r) (omega arith) h (sym e))
  same_char false false false true v w a b f g h k e = absurd (other c 37 r (50 ∷ 53 ∷ s) (omega arith) a e)
  same_char false false false false true w a b f g h k e = absurd (other c 126 r (48 ∷ s) (omega arith) b e)
  same_char false false false false false true a b f g h k e = absurd (other c 126 r (49 ∷ s) (omega arith) b e)
  same_char false false false false false false a b f g h k e = plain e

-- two tokens before what begins as a pointer does
pub same_token : (k l r s : List ℕ) → begins_pointer r ≡ true → begins_pointer s ≡ true → token_text k ++ r ≡ token_text l ++ s → k ≡ l
same_token [] [] r s h g e = refl
same_token [] (d ∷ l) r s h g e = absurd (true≢false (sym h ∙ (ap begins_pointer (e ∙ append_assoc (token_char d) (token_text l) s)
    ∙ char_begins d (token_text l ++ s))))
same_token (c ∷ k) [] r s h g e = absurd (true≢false (sym g ∙ (ap begins_pointer (sym e ∙ append_assoc (token_char c) (token_text k) r)
    ∙ char_begins c (token_text k ++ r))))
same_token (c ∷ k) (d ∷ l) r s h g e =
    let both = same_char c d (token_text k ++ r) (token_text l ++ s) (c == 37) (c == 126) (c == 47) (d == 37) (d == 126) (d == 47)
    refl refl refl refl refl refl
    (sym (append_assoc (token_char c) (token_text k) r) ∙ (e ∙ append_assoc (token_char d) (token_text l) s)) in
    λ i. both.0 i ∷ same_token k l r s h g both.1 i

-- a place is within that of one key only
pub one_key : (p q k l : List ℕ) → is_within (at_key p k) q ≡ true → is_within (at_key p l) q ≡ true → k ≡ l
one_key p q k l h g =
    let a = within_to (at_key p k) q h in
    let b = within_to (at_key p l) q g in
    let both : p ++ 47 ∷ (token_text k ++ a.0) ≡ p ++ 47 ∷ (token_text l ++ b.0) = sym (append_assoc p (47 ∷ token_text k) a.0)
    ∙ (sym a.1 ∙ (b.1 ∙ append_assoc p (47 ∷ token_text l) b.0)) in
    same_token k l a.0 b.0 a.2 b.2 (ap (drop 1) (append_cancel_left p _ _ both))

pub other_key : (p q k l : List ℕ) → is_within (at_key p k) q ≡ true → bytes_eq k l ≡ false → is_within (at_key p l) q ≡ false
other_key p q k l h n = false_from_ne_true (is_within (at_key p l) q)
    (λ g. true≢false (sym ((bytes_eq-Decides k l).1 (one_key p q k l h g)) ∙ n))

pub not_below : (p q k : List ℕ) → is_within p q ≡ false → is_within (at_key p k) q ≡ false
not_below p q k h = false_from_ne_true (is_within (at_key p k) q)
    (λ g. true≢false (sym (within_within p (at_key p k) q (within_key p k) g) ∙ h))

-- ---- indices

digit_alone : (c : ℕ) → is_ascii_digit c ≡ true → token_char c ≡ c ∷ []
digit_alone c h =
    let low : 48 ≤ c = leb-true 48 c (and_parts (nat_le 48 c) (nat_le c 57) h).0 in
    let high : c ≤ 57 = leb-true c 57 (and_parts (nat_le 48 c) (nat_le c 57) h).1 in
    by (c == 37) (c == 126) (c == 47) refl refl refl low high
  where
    by : (x y z : Bool) → (c == 37) ≡ x → (c == 126) ≡ y → (c == 47) ≡ z → 48 ≤ c → c ≤ 57
        → cond x (codes "%25") (cond y (codes "~0") (cond z (codes "~1") (encode_utf8_all (c ∷ [])))) ≡ c ∷ []
    by true y z e f g low high = absurd (let n = eqb-true c 37 e in omega (arith, n))
    by false true z e f g low high = absurd (let n = eqb-true c 126 f in omega (arith, n))
    by false false true e f g low high = absurd (let n = eqb-true c 47 g in omega (arith, n))
    by false false false e f g low high = append-nil (encode c) ∙ encode_ascii c (omega (arith, high))

pub digits_alone : (cs : List ℕ) → all_ascii_digits cs ≡ true → token_text cs ≡ cs
digits_alone [] h = refl
digits_alone (c ∷ cs) h =
    let both = and_parts (is_ascii_digit c) (all_ascii_digits cs) h in
    λ i. digit_alone c both.0 i ++ digits_alone cs both.1 i

pub own_digits : IsNumeralModel (λ ds. all_ascii_digits ds ≡ true) (digits_value 10)
own_digits = numerals_by_value _ tells_all_ascii_digits

-- the place at an index is that at its token
pub index_key : (p : List ℕ) (i : ℕ) → i < 2 ^ 64 → at_key p (decimal i) ≡ at_index p i
index_key p i h = ap (λ x. p ++ 47 ∷ x) (digits_alone (decimal i) (digits_decimal own_digits i h))

pub within_index : (p : List ℕ) (i : ℕ) → is_within p (at_index p i) ≡ true
within_index p i = within_from p (47 ∷ decimal i) refl

pub other_index : (p q : List ℕ) (i j : ℕ) → i < 2 ^ 64 → j < 2 ^ 64 → is_within (at_index p i) q ≡ true → (i ≡ j → ⊥)
    → is_within (at_index p j) q ≡ false
other_index p q i j a b h n = false_from_ne_true (is_within (at_index p j) q) (λ g. n (decimal_injective i j a b
    (one_key p q (decimal i) (decimal j) (ap (λ x. is_within x q) (index_key p i a) ∙ h) (ap (λ x. is_within x q) (index_key p j b) ∙ g))))

pub not_item : (p q : List ℕ) (i : ℕ) → is_within p q ≡ false → is_within (at_index p i) q ≡ false
not_item p q i h = false_from_ne_true (is_within (at_index p i) q)
    (λ g. true≢false (sym (within_within p (at_index p i) q (within_index p i) g) ∙ h))

-- ---- arrays that are not too long

pub no_tree : (v : Tree) → None ≡ Some v → ⊥
no_tree v e = cc

pub nth_short : (ts : Items) (i : ℕ) (v : Tree) → AreShort ts → nth ts i ≡ Some v → IsShort v
nth_short no_items i v h e = absurd (no_tree v e)
nth_short (item t ts) zero v h e = subst IsShort (same_Some t v e) h.0
nth_short (item t ts) (suc i) v h e = nth_short ts i v h.1 e

pub found_short : (k : List ℕ) (ms : Members) (v : Tree) → HaveShort ms → find k ms ≡ Some v → IsShort v
found_short k no_members v h e = absurd (no_tree v e)
found_short k (member l u ms) v h e = by (found_short k ms v h.1) (bytes_eq k l) e
  where
    by : (find k ms ≡ Some v → IsShort v) → (b : Bool) → cond b (Some u) (find k ms) ≡ Some v → IsShort v
    by later true e = subst IsShort (same_Some u v e) h.0
    by later false e = later e

-- ---- the resources that contain a place

-- their URIs and places, the innermost first
abbrev pub Chain : Type 0
Chain = List (List ℕ × List ℕ)

module _ (q : List ℕ) where
  -- those among the marks that contain q, before those of the chain
  abbrev pub enclosing : List Marked → Chain → Chain
  enclosing [] ch = ch
  enclosing (m ∷ ms) ch = enclosing ms (cond (is_resource_mark m.0 && is_within m.2 q) ((m.1, m.2) ∷ ch) ch)

  pub enclosing_both : (ms ns : List Marked) (ch : Chain) → enclosing (ms ++ ns) ch ≡ enclosing ns (enclosing ms ch)
  enclosing_both [] ns ch = refl
  enclosing_both (m ∷ ms) ns ch = enclosing_both ms ns (cond (is_resource_mark m.0 && is_within m.2 q) ((m.1, m.2) ∷ ch) ch)

  -- none of the marks is a resource that contains q
  abbrev pub Outside : List Marked → Type 0
  Outside ms = (ch : Chain) → enclosing ms ch ≡ ch

  outside_both : (ms ns : List Marked) → Outside ms → Outside ns → Outside (ms ++ ns)
  outside_both ms ns g h ch = enclosing_both ms ns ch ∙ (ap (enclosing ns) (g ch) ∙ h ch)

  outside_resources : (b p : List ℕ) (s : Tree) → is_within p q ≡ false → Outside (resource_marks b p s)
  outside_resources b p s h ch = by (is_resource p s)
    where
      by : (x : Bool) → enclosing (cond x ((kind.Resource, b, p) ∷ []) []) ch ≡ ch
      by true = ap (λ y. cond y ((b, p) ∷ ch) ch) h
      by false = refl

  outside_names : (key b p : List ℕ) (w : Tree) → Outside (name_marks (name_kind key) b p w)
  outside_names key b p (string cs) ch = by (bytes_eq key (name kw.DynamicAnchor))
    where
      by : (x : Bool) → enclosing ((cond x kind.DynamicName kind.Name, with_name b (encode_utf8_all cs), p) ∷ []) ch ≡ ch
      by true = refl
      by false = refl
  outside_names key b p _ ch = refl

  outside_references : (p : List ℕ) (w : Tree) → Outside (reference_marks p w)
  outside_references p (string cs) ch = by (is_fragment (encode_utf8_all cs))
    where
      by : (x : Bool) → enclosing ((cond x kind.Inside kind.Outside, encode_utf8_all cs, p) ∷ []) ch ≡ ch
      by true = refl
      by false = refl
  outside_references p _ ch = refl

  outside_form : (f : Form) (a b c d e : List Marked) → Outside a → Outside b → Outside c → Outside d → Outside e
      → Outside (marks_by f a b c d e)
  outside_form form.Anchor a b c d e f g h i j ch = f ch
  outside_form form.Reference a b c d e f g h i j ch = g ch
  outside_form form.Schema a b c d e f g h i j ch = h ch
  outside_form form.Schemas a b c d e f g h i j ch = i ch
  outside_form form.SchemaMap a b c d e f g h i j ch = j ch
  outside_form form.PatternMap a b c d e f g h i j ch = j ch
  outside_form _ a b c d e f g h i j ch = refl

  -- the marks of a keyword of the schema at p, with the base URI b in it
  abbrev pub marks_at : List ℕ → List ℕ → List ℕ → Tree → List Marked
  marks_at b p k w = marks_by (form_at (encode_utf8_all k)) (name_marks (name_kind (encode_utf8_all k)) b p w) (reference_marks p w)
      (marks_in b (at_key p k) w) (marks_in_list b (at_key p k) w) (marks_in_map b (at_key p k) w)

  outside_keyword : (b p k : List ℕ) (w : Tree) → Outside (marks_in b (at_key p k) w) → Outside (marks_in_list b (at_key p k) w)
      → Outside (marks_in_map b (at_key p k) w) → Outside (marks_at b p k w)
  outside_keyword b p k w f g h ch = outside_form (form_at (encode_utf8_all k)) (name_marks (name_kind (encode_utf8_all k)) b p w)
      (reference_marks p w) (marks_in b (at_key p k) w) (marks_in_list b (at_key p k) w) (marks_in_map b (at_key p k) w)
      (outside_names (encode_utf8_all k) b p w) (outside_references p w) f g h ch

  mutual
    outside_schema : (b p : List ℕ) (w : Tree) → is_within p q ≡ false → Outside (marks_in b p w)
    outside_schema b p (object ms) h ch = outside_both (resource_marks (base_in b (object ms)) p (object ms)) (marks_among (base_in b
        (object ms)) p ms)
        (outside_resources (base_in b (object ms)) p (object ms) h)
        (outside_among (base_in b (object ms)) p ms (λ l. not_below p q l h)) ch
    outside_schema b p _ h ch = refl

    pub outside_among : (b p : List ℕ) (ms : Members) → ((l : List ℕ) → is_within (at_key p l) q ≡ false) → Outside (marks_among b p ms)
    outside_among b p no_members h ch = refl
    outside_among b p (member k w ms) h ch = outside_both (marks_at b p k w) (marks_among b p ms)
        (outside_keyword b p k w (outside_schema b (at_key p k) w (h k)) (outside_list b (at_key p k) w (h k))
        (outside_map b (at_key p k) w (h k)))
        (outside_among b p ms h) ch

    outside_list : (b p : List ℕ) (w : Tree) → is_within p q ≡ false → Outside (marks_in_list b p w)
    outside_list b p (array ts) h ch = outside_items b p 0 ts (λ i. not_item p q i h) ch
    outside_list b p _ h ch = refl

    outside_map : (b p : List ℕ) (w : Tree) → is_within p q ≡ false → Outside (marks_in_map b p w)
    outside_map b p (object ms) h ch = outside_members b p ms (λ l. not_below p q l h) ch
    outside_map b p _ h ch = refl

    outside_items : (b p : List ℕ) (i : ℕ) (ts : Items) → ((j : ℕ) → is_within (at_index p j) q ≡ false)
        → Outside (marks_of_items b p i ts)
    outside_items b p i no_items h ch = refl
    outside_items b p i (item t ts) h ch = outside_both (marks_in b (at_index p i) t) (marks_of_items b p (suc i) ts)
        (outside_schema b (at_index p i) t (h i)) (outside_items b p (suc i) ts h) ch

    outside_members : (b p : List ℕ) (ms : Members) → ((l : List ℕ) → is_within (at_key p l) q ≡ false) → Outside (marks_of_members b p ms)
    outside_members b p no_members h ch = refl
    outside_members b p (member k t ms) h ch = outside_both (marks_in b (at_key p k) t) (marks_of_members b p ms)
        (outside_schema b (at_key p k) t (h k)) (outside_members b p ms h) ch

  -- ---- those in one part

  form_within : (f : Form) (a b c d e : List Marked) → Outside a → Outside b → (ch : Chain)
      → enclosing (marks_by f a b c d e) ch ≡ enclosing (marks_by f [] [] c d e) ch
  form_within form.Anchor a b c d e f g ch = f ch
  form_within form.Reference a b c d e f g ch = g ch
  form_within _ a b c d e f g ch = refl

  keyword_within : (b p k : List ℕ) (w : Tree) (ch : Chain)
      → enclosing (marks_at b p k w) ch ≡ enclosing (marks_within (form_at (encode_utf8_all k)) b (at_key p k) w) ch
  keyword_within b p k w ch = form_within (form_at (encode_utf8_all k)) (name_marks (name_kind (encode_utf8_all k)) b p w)
      (reference_marks p w) (marks_in b (at_key p k) w) (marks_in_list b (at_key p k) w) (marks_in_map b (at_key p k) w)
      (outside_names (encode_utf8_all k) b p w) (outside_references p w) ch

  module _ (b p k : List ℕ) (inside : is_within (at_key p k) q ≡ true) where
    some_none : (v : Tree) → Some v ≡ None → ⊥
    some_none v e = cc

    rest_among : (ms : Members) → find k ms ≡ None → Outside (marks_among b p ms)
    rest_among no_members e ch = refl
    rest_among (member l u ms) e ch = by (rest_among ms) (bytes_eq k l) refl e
      where
        by : (find k ms ≡ None → Outside (marks_among b p ms)) → (x : Bool) → bytes_eq k l ≡ x → cond x (Some u) (find k ms) ≡ None
            → enclosing (marks_at b p l u ++ marks_among b p ms) ch ≡ ch
        by later true f g = absurd (some_none u g)
        by later false f g =
            let out = other_key p q k l inside f in
            outside_both (marks_at b p l u) (marks_among b p ms) (outside_keyword b p l u (outside_schema b (at_key p l) u out)
            (outside_list b (at_key p l) u out) (outside_map b (at_key p l) u out)) (later g) ch

    pub found_among : (ms : Members) (w : Tree) → IsSorted ms → find k ms ≡ Some w → (ch : Chain)
        → enclosing (marks_among b p ms) ch ≡ enclosing (marks_within (form_at (encode_utf8_all k)) b (at_key p k) w) ch
    found_among no_members w s e ch = absurd (no_tree w e)
    found_among (member l u ms) w s e ch = by (found_among ms w s.1) (bytes_eq k l) refl e
      where
        by : (find k ms ≡ Some w → (ch : Chain) → enclosing (marks_among b p ms) ch
            ≡ enclosing (marks_within (form_at (encode_utf8_all k)) b (at_key p k) w) ch) → (x : Bool) → bytes_eq k l ≡ x
            → cond x (Some u) (find k ms) ≡ Some w → enclosing (marks_at b p l u ++ marks_among b p ms) ch
            ≡ enclosing (marks_within (form_at (encode_utf8_all k)) b (at_key p k) w) ch
        by later true f g =
            let here : k ≡ l = (bytes_eq-Decides k l).0 f in
            let same : u ≡ w = same_Some u w g in
            enclosing_both (marks_at b p l u) (marks_among b p ms) ch
            ∙ (rest_among ms (ap (λ x. find x ms) here ∙ find_below l ms s.0 s.1) (enclosing (marks_at b p l u) ch)
            ∙ (λ i. enclosing (marks_at b p (sym here i) (same i)) ch) ∙ keyword_within b p k w ch)
        by later false f g =
            let out = other_key p q k l inside f in
            enclosing_both (marks_at b p l u) (marks_among b p ms) ch
            ∙ (ap (enclosing (marks_among b p ms)) (outside_keyword b p l u (outside_schema b (at_key p l) u out)
            (outside_list b (at_key p l) u out) (outside_map b (at_key p l) u out) ch) ∙ later g ch)

    rest_members : (ms : Members) → find k ms ≡ None → Outside (marks_of_members b p ms)
    rest_members no_members e ch = refl
    rest_members (member l u ms) e ch = by (rest_members ms) (bytes_eq k l) refl e
      where
        by : (find k ms ≡ None → Outside (marks_of_members b p ms)) → (x : Bool) → bytes_eq k l ≡ x → cond x (Some u) (find k ms) ≡ None
            → enclosing (marks_in b (at_key p l) u ++ marks_of_members b p ms) ch ≡ ch
        by later true f g = absurd (some_none u g)
        by later false f g = outside_both (marks_in b (at_key p l) u) (marks_of_members b p ms)
            (outside_schema b (at_key p l) u (other_key p q k l inside f)) (later g) ch

    pub found_members : (ms : Members) (w : Tree) → IsSorted ms → find k ms ≡ Some w → (ch : Chain)
        → enclosing (marks_of_members b p ms) ch ≡ enclosing (marks_in b (at_key p k) w) ch
    found_members no_members w s e ch = absurd (no_tree w e)
    found_members (member l u ms) w s e ch = by (found_members ms w s.1) (bytes_eq k l) refl e
      where
        by : (find k ms ≡ Some w → (ch : Chain) → enclosing (marks_of_members b p ms) ch ≡ enclosing (marks_in b (at_key p k) w) ch)
            → (x : Bool) → bytes_eq k l ≡ x → cond x (Some u) (find k ms) ≡ Some w
            → enclosing (marks_in b (at_key p l) u ++ marks_of_members b p ms) ch ≡ enclosing (marks_in b (at_key p k) w) ch
        by later true f g =
            let here : k ≡ l = (bytes_eq-Decides k l).0 f in
            let same : u ≡ w = same_Some u w g in
            enclosing_both (marks_in b (at_key p l) u) (marks_of_members b p ms) ch
            ∙ (rest_members ms (ap (λ x. find x ms) here ∙ find_below l ms s.0 s.1) (enclosing (marks_in b (at_key p l) u) ch)
            ∙ (λ i. enclosing (marks_in b (at_key p (sym here i)) (same i)) ch))
        by later false f g =
            enclosing_both (marks_in b (at_key p l) u) (marks_of_members b p ms) ch
            ∙ (ap (enclosing (marks_of_members b p ms)) (outside_schema b (at_key p l) u (other_key p q k l inside f) ch) ∙ later g ch)

  module _ (b p : List ℕ) (n : ℕ) (small : n < 2 ^ 64) (inside : is_within (at_index p n) q ≡ true) where
    rest_items : (j : ℕ) (ts : Items) → n < j → j + item_count ts ≤ 2 ^ 64 → Outside (marks_of_items b p j ts)
    rest_items j no_items l h ch = refl
    rest_items j (item t ts) l h ch =
        let below : j < 2 ^ 64 = omega (arith, h) in
        let past : n < suc j = omega (arith, l) in
        let more : suc j + item_count ts ≤ 2 ^ 64 = omega (arith, h) in
        outside_both (marks_in b (at_index p j) t) (marks_of_items b p (suc j) ts)
        (outside_schema b (at_index p j) t (other_index p q n j small below inside (λ e. omega (arith, e, l))))
        (rest_items (suc j) ts past more) ch

    pub found_items : (j : ℕ) (ts : Items) (i : ℕ) (v : Tree) → n ≡ j + i → j + item_count ts ≤ 2 ^ 64 → nth ts i ≡ Some v → (ch : Chain)
        → enclosing (marks_of_items b p j ts) ch ≡ enclosing (marks_in b (at_index p n) v) ch
    found_items j no_items i v a h e ch = absurd (no_tree v e)
    found_items j (item t ts) zero v a h e ch =
        let same : t ≡ v = same_Some t v e in
        let here : j ≡ n = omega (arith, a) in
        let past : n < suc j = omega (arith, a) in
        let more : suc j + item_count ts ≤ 2 ^ 64 = omega (arith, h) in
        enclosing_both (marks_in b (at_index p j) t) (marks_of_items b p (suc j) ts) ch
        ∙ (rest_items (suc j) ts past more (enclosing (marks_in b (at_index p j) t) ch)
        ∙ (λ i. enclosing (marks_in b (at_index p (here i)) (same i)) ch))
    found_items j (item t ts) (suc i) v a h e ch =
        let next : n ≡ suc j + i = omega (arith, a) in
        let below : j < 2 ^ 64 = omega (arith, h) in
        let more : suc j + item_count ts ≤ 2 ^ 64 = omega (arith, h) in
        enclosing_both (marks_in b (at_index p j) t) (marks_of_items b p (suc j) ts) ch
        ∙ (ap (enclosing (marks_of_items b p (suc j) ts)) (outside_schema b (at_index p j) t
        (other_index p q n j small below inside (λ x. omega (arith, x, a))) ch)
        ∙ found_items (suc j) ts i v next more e ch)
