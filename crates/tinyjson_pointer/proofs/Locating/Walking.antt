-- One step into a value, and the walk over all tokens.
use Rattle.std.proofs.Common.{◌≡◌, ℕ, zero, suc, ◌-◌, ◌<◌, ◌≤◌, ◌^◌, true, false, List, [], ◌∷◌, ◌++◌, length}
use Rattle.std.proofs.Common.{Option, Some, None}
use Rattle.std.proofs.Common.{option_map, refl, sym, ap, ◌∙◌, subst, append_assoc, arith, lit<, length-append, Result, Ok, Err, Bor}
use Rattle.std.proofs.lemmas.Bool.{false≢true}
use Rattle.std.proofs.lemmas.Str.{encodes-chars, length-le-encodes}
use Rattle.std.specs.Prelude.{IfSome, option_and_then}
use Rattle.std.specs.Result.{IsErrAnd}
use Rattle.std.specs.Str.{IsUtf8, chars}
use Rattle.tinyjson_grammar.proofs.Callers.Laws.{Begins, begins_append, text_begins}
use Rattle.tinyjson_grammar.specs.Syntax.{Syntax, Elements, Pairs, null, boolean, number, string, empty_array, array, empty_object}
use Rattle.tinyjson_grammar.specs.Syntax.{object}
use Rattle.tinyjson_grammar.specs.Syntax.{last_element, element, last_pair, pair, text, elements_text, pairs_text, IsSpelled, IsStrict}
use Rattle.tinyjson_grammar.specs.Syntax.{AreWhite, AreElements, ArePairs}
use Rattle.tinyjson_grammar.specs.Characters.{is_white}
use Rattle.tinyjson_number.specs.Numeral.{Numeral, IsNumeral, spelling}
use Rattle.tinyjson.specs.declared.parser.error.JsonParseError.{JsonParseError}
use Rattle.tinyjson_pointer.specs.Index.{index_of}
use Rattle.tinyjson_pointer.specs.Spots.{Spot, within, nth_spot, item_spot, last_member}
use Rattle.tinyjson_pointer.specs.Places.{child, named}
use Rattle.tinyjson_pointer.specs.private.Scan.{after_comma, after_commas, without_white, is_closed}
use Rattle.tinyjson_pointer.specs.private.Parts.{begun, FindsFrom, IsExhausted, Steps}
use Rattle.tinyjson_pointer.proofs.Locating.Scanning.{is_inert, AllInert, numeral_inert}
use Rattle.tinyjson_pointer.proofs.Locating.Finding.{first_item, item_found, item_within}
use Rattle.tinyjson_pointer.proofs.Locating.Parts.{IsPart, child_has}

-- ---- commas

pub commas_step : (n : ℕ) (xs : List ℕ) → 0 < n → after_commas n xs ≡ option_and_then (after_commas (n - 1)) (after_comma xs)
commas_step zero xs h = absurd (omega arith)
commas_step (suc n) xs h = let e : n ≡ suc n - 1 = omega arith in ap (λ m. option_and_then (after_commas m) (after_comma xs)) e

-- ---- items

pub item_at : (es : Elements) (r xs : List ℕ) (o : Option ℕ) (i : ℕ) → AreElements es → xs ≡ elements_text es ++ 93 ∷ r → o ≡ Some i
    → option_map without_white (after_commas i xs) ≡ option_map (begun (93 ∷ r)) (item_spot es o)
item_at es r xs o i h e is =
    ap (λ ys. option_map without_white (after_commas i ys)) e ∙ (item_found i es r h
    ∙ ap (λ p. option_map (begun (93 ∷ r)) (item_spot es p)) (sym is))

is_none : (es : Elements) (r : List ℕ) (o : Option Spot) → (¬ (o ≡ None) → ⊥) → option_map (begun r) o ≡ None
is_none es r None h = refl
is_none es r (Some p) h = absurd (h (λ e. some_none e))
  where
    some_none : Some p ≡ None → ⊥
    some_none e = cc

-- no array in memory has so many items
pub no_item : (es : Elements) (r bs : List ℕ) (o : Option ℕ) → chars bs ≡ elements_text es ++ 93 ∷ r → IsUtf8 bs → length bs < 2 ^ 64
    → ((i : ℕ) → o ≡ Some i → 2 ^ 64 ≤ i) → option_map (begun (93 ∷ r)) (item_spot es o) ≡ None
no_item es r bs None e u short h = refl
no_item es r bs (Some i) e u short h = is_none es (93 ∷ r) (nth_spot es i) (λ there.
    let a = item_within i es there in
    let b = ap length e ∙ length-append (elements_text es) (93 ∷ r) in
    let d = length-le-encodes (chars bs) in
    let f = ap length (encodes-chars bs u) in
    let g = h i refl in
    omega arith)

-- ---- what a value begins with

inert_head : (c : ℕ) (xs ts r : List ℕ) → AllInert ts → 0 < length ts → c ∷ xs ≡ ts ++ r → is_inert c ≡ true
inert_head c xs [] r h n e = absurd (omega arith)
inert_head c xs (t ∷ ts) r h n e = let k : c ≡ t = cc in ap is_inert k ∙ h.0

spelling_some : (n : Numeral) → IsNumeral n → 0 < length (spelling n)
spelling_some n h = let b = text_begins (number n) h in let e = ap length b.2 in omega arith

number_head : (c : ℕ) (xs r : List ℕ) (n : Numeral) → IsNumeral n → c ∷ xs ≡ spelling n ++ r → is_inert c ≡ false → ⊥
number_head c xs r n h e k =
    false≢true (sym k ∙ inert_head c xs (spelling n) r (numeral_inert n h) (spelling_some n h) e)

head_same : (c d : ℕ) (xs ys : List ℕ) → c ∷ xs ≡ d ∷ ys → c ≡ d
head_same c d xs ys h = cc

above : (c d : ℕ) (xs ys : List ℕ) → c ∷ xs ≡ d ∷ ys → c < d → ⊥
above c d xs ys e l = let k : c ≡ d = head_same c d xs ys e in omega arith

below : (c d : ℕ) (xs ys : List ℕ) → c ∷ xs ≡ d ∷ ys → d < c → ⊥
below c d xs ys e l = let k : c ≡ d = head_same c d xs ys e in omega arith

tail_same : (c d : ℕ) (xs ys : List ℕ) → c ∷ xs ≡ d ∷ ys → xs ≡ ys
tail_same c d xs ys h = cc

white_then : (w ys : List ℕ) (c : ℕ) → AreWhite w → is_white c ≡ false → without_white (w ++ c ∷ ys) ≡ c ∷ ys
white_then [] ys c h k = rw k
white_then (x ∷ xs) ys c h k = rw h.0 (white_then xs ys c h.1 k)

closed_white : (w r xs : List ℕ) (c : ℕ) → AreWhite w → is_white c ≡ false → is_closed (c ∷ r) ≡ true → xs ≡ (w ++ c ∷ []) ++ r
    → is_closed (without_white xs) ≡ true
closed_white w r xs c h k closes e =
    ap (λ ys. is_closed (without_white ys)) (e ∙ append_assoc w (c ∷ []) r) ∙ (ap is_closed (white_then w r c h k) ∙ closes)

begins_open : (xs : List ℕ) → Begins xs → is_closed xs ≡ false
begins_open xs b = rw b.2 (rw (b.3.1, b.3.2))

elements_open : (es : Elements) (r : List ℕ) → AreElements es → is_closed (without_white (elements_text es ++ r)) ≡ false
elements_open (last_element v s w) r h = ap is_closed (first_item v s w r h.0 h.1)
    ∙ begins_open (text s ++ (w ++ r)) (begins_append (text s) (w ++ r) (text_begins s h.1))
elements_open (element v s w es) r h = ap is_closed (first_item v s (w ++ 44 ∷ elements_text es) r h.0 h.1)
    ∙ begins_open (text s ++ ((w ++ 44 ∷ elements_text es) ++ r)) (begins_append (text s) _ (text_begins s h.1))

pairs_open : (ps : Pairs) (r : List ℕ) → ArePairs ps → is_closed (without_white (pairs_text ps ++ r)) ≡ false
pairs_open (last_pair a k b c s d) r h = let ys = b ++ 58 ∷ (c ++ (text s ++ d)) in
    ap is_closed (first_item a k ys r h.0 h.1) ∙ begins_open (text k ++ (ys ++ r)) (begins_append (text k) (ys ++ r) (text_begins k h.1))
pairs_open (pair a k b c s d ps) r h = let ys = b ++ 58 ∷ (c ++ (text s ++ (d ++ 44 ∷ pairs_text ps))) in
    ap is_closed (first_item a k ys r h.0 h.1) ∙ begins_open (text k ++ (ys ++ r)) (begins_append (text k) (ys ++ r) (text_begins k h.1))

closing : (xs ys r : List ℕ) (c : ℕ) → xs ≡ (ys ++ c ∷ []) ++ r → xs ≡ ys ++ c ∷ r
closing xs ys r c e = e ∙ append_assoc ys (c ∷ []) r

-- a value whose first character is followed by a closing bracket has no part
pub closed_child : (s : Syntax) (k r xs : List ℕ) (c : ℕ) → IsSpelled s → c ∷ xs ≡ text s ++ r → is_closed (without_white xs) ≡ true
    → option_map (begun r) (child s k) ≡ None
closed_child (array es) k r xs c h e closed =
    let x : xs ≡ elements_text es ++ 93 ∷ r = closing xs (elements_text es) r 93 (tail_same c 91 xs _ e) in
    absurd (false≢true (sym (ap (λ ys. is_closed (without_white ys)) x ∙ elements_open es (93 ∷ r) h) ∙ closed))
closed_child (object ps) k r xs c h e closed =
    let x : xs ≡ pairs_text ps ++ 125 ∷ r = closing xs (pairs_text ps) r 125 (tail_same c 123 xs _ e) in
    absurd (false≢true (sym (ap (λ ys. is_closed (without_white ys)) x ∙ pairs_open ps (125 ∷ r) h) ∙ closed))
closed_child null k r xs c h e closed = refl
closed_child (boolean b) k r xs c h e closed = refl
closed_child (number n) k r xs c h e closed = refl
closed_child (string ps) k r xs c h e closed = refl
closed_child (empty_array w) k r xs c h e closed = refl
closed_child (empty_object w) k r xs c h e closed = refl

-- an array with items, or an object with members
pub opened_array : (s : Syntax) (r xs : List ℕ) → IsSpelled s → 91 ∷ xs ≡ text s ++ r → is_closed (without_white xs) ≡ false
    → (es : Elements) × (s ≡ array es) × (xs ≡ elements_text es ++ 93 ∷ r)
opened_array (array es) r xs h e opens = (es, refl, closing xs (elements_text es) r 93 (tail_same 91 91 xs _ e))
opened_array (empty_array w) r xs h e opens =
    absurd (false≢true (sym opens ∙ closed_white w r xs 93 h refl refl (tail_same 91 91 xs _ e)))
opened_array (number n) r xs h e opens = absurd (number_head 91 xs r n h e refl)
opened_array null r xs h e opens = absurd (above 91 110 xs _ e (lit< tt))
opened_array (boolean true) r xs h e opens = absurd (above 91 116 xs _ e (lit< tt))
opened_array (boolean false) r xs h e opens = absurd (above 91 102 xs _ e (lit< tt))
opened_array (string ps) r xs h e opens = absurd (below 91 34 xs _ e (lit< tt))
opened_array (empty_object w) r xs h e opens = absurd (above 91 123 xs _ e (lit< tt))
opened_array (object ps) r xs h e opens = absurd (above 91 123 xs _ e (lit< tt))

pub opened_object : (s : Syntax) (r xs : List ℕ) → IsSpelled s → 123 ∷ xs ≡ text s ++ r → is_closed (without_white xs) ≡ false
    → (ps : Pairs) × (s ≡ object ps) × (xs ≡ pairs_text ps ++ 125 ∷ r)
opened_object (object ps) r xs h e opens = (ps, refl, closing xs (pairs_text ps) r 125 (tail_same 123 123 xs _ e))
opened_object (empty_object w) r xs h e opens =
    absurd (false≢true (sym opens ∙ closed_white w r xs 125 h refl refl (tail_same 123 123 xs _ e)))
opened_object (number n) r xs h e opens = absurd (number_head 123 xs r n h e refl)
opened_object null r xs h e opens = absurd (below 123 110 xs _ e (lit< tt))
opened_object (boolean true) r xs h e opens = absurd (below 123 116 xs _ e (lit< tt))
opened_object (boolean false) r xs h e opens = absurd (below 123 102 xs _ e (lit< tt))
opened_object (string ps) r xs h e opens = absurd (below 123 34 xs _ e (lit< tt))
opened_object (empty_array w) r xs h e opens = absurd (below 123 91 xs _ e (lit< tt))
opened_object (array es) r xs h e opens = absurd (below 123 91 xs _ e (lit< tt))

-- a value that begins with neither bracket
pub other_child : (s : Syntax) (k r xs : List ℕ) (c : ℕ) → c ∷ xs ≡ text s ++ r → ¬ (c ≡ 91) → ¬ (c ≡ 123)
    → option_map (begun r) (child s k) ≡ None
other_child (array es) k r xs c e a b = absurd (a (head_same c 91 xs _ e))
other_child (object ps) k r xs c e a b = absurd (b (head_same c 123 xs _ e))
other_child null k r xs c e a b = refl
other_child (boolean t) k r xs c e a b = refl
other_child (number n) k r xs c e a b = refl
other_child (string ps) k r xs c e a b = refl
other_child (empty_array w) k r xs c e a b = refl
other_child (empty_object w) k r xs c e a b = refl

pub no_value : (s : Syntax) (r : List ℕ) → IsSpelled s → [] ≡ text s ++ r → ⊥
no_value s r h e = let b = begins_append (text s) r (text_begins s h) in let n : [] ≡ b.0 ∷ b.1 = e ∙ b.2 in nil_cons b.0 b.1 n
  where
    nil_cons : (c : ℕ) (cs : List ℕ) → [] ≡ c ∷ cs → ⊥
    nil_cons c cs e = cc

within_begun : (r b a : List ℕ) (o : Option Spot) → option_map (begun r) (option_map (within b a) o) ≡ option_map (begun (a ++ r)) o
within_begun r b a None = refl
within_begun r b a (Some p) = ap (λ ys. Some (text p.part ++ ys)) (append_assoc p.behind a r)

pub array_child : (s : Syntax) (es : Elements) (k r : List ℕ) → s ≡ array es
    → option_map (begun r) (child s k) ≡ option_map (begun (93 ∷ r)) (item_spot es (index_of k))
array_child s es k r e = ap (λ t. option_map (begun r) (child t k)) e ∙ within_begun r (91 ∷ []) (93 ∷ []) (item_spot es (index_of k))

pub object_child : (s : Syntax) (ps : Pairs) (k r : List ℕ) → s ≡ object ps
    → option_map (begun r) (child s k) ≡ option_map (begun (125 ∷ r)) (last_member k ps)
object_child s ps k r e = ap (λ t. option_map (begun r) (child t k)) e ∙ within_begun r (123 ∷ []) (125 ∷ []) (last_member k ps)

-- the answer about the members is that about the object
pub object_found : (s : Syntax) (ps : Pairs) (k r : List ℕ) (result : Result (Option (Bor (List ℕ))) JsonParseError) → s ≡ object ps
    → FindsFrom (125 ∷ r) (last_member k ps) result → FindsFrom r (child s k) result
object_found s ps k r (Ok o) e h = h ∙ sym (object_child s ps k r e)
object_found s ps k r (Err x) e h = h

-- ---- all tokens

-- The walk has come to what begins with this value; the other tokens are left.
pub record Reached (s : Syntax) (r : List ℕ) (all : List (List ℕ)) (xs : List ℕ) (rest : List (List ℕ)) : Type 0 where
  pub value : Syntax
  pub behind : List ℕ
  pub spelled : IsSpelled value
  pub strict : IsStrict value
  pub here : xs ≡ text value ++ behind
  pub answer : option_map (begun r) (named s all) ≡ option_map (begun behind) (named value rest)

pub reached_first : (s : Syntax) (r xs : List ℕ) (all rest : List (List ℕ)) → IsSpelled s → IsStrict s → xs ≡ text s ++ r → rest ≡ all
    → Reached s r all xs rest
reached_first s r xs all rest h z e is = record {
  value = s;
  behind = r;
  spelled = h;
  strict = z;
  here = e;
  answer = ap (λ ks. option_map (begun r) (named s ks)) (sym is);
}

abbrev pub Onward : Syntax → List ℕ → List (List ℕ) → List (List ℕ) → Option (List ℕ) → Type 0
Onward s r all ks None = option_map (begun r) (named s all) ≡ None
Onward s r all ks (Some ys) = Reached s r all ys ks

pub reached_next : (s : Syntax) (r xs k : List ℕ) (all ks : List (List ℕ)) (m : Reached s r all xs (k ∷ ks))
    (o : Option (List ℕ))
    → o ≡ option_map (begun m.behind) (child m.value k) → Onward s r all ks o
reached_next s r xs k all ks m o e = subst (Onward s r all ks) (sym e)
    (by (child m.value k) (child_has m.value k m.spelled m.strict) m.answer)
  where
    by : (c : Option Spot) → IfSome c (IsPart (text m.value))
        → option_map (begun r) (named s all)
        ≡ option_map (begun m.behind) (option_and_then (λ p. option_map (within p.before p.behind) (named p.part ks)) c)
        → Onward s r all ks (option_map (begun m.behind) c)
    by None h a = a
    by (Some p) h a = record {
      value = p.part;
      behind = p.behind ++ m.behind;
      spelled = h.spelled;
      strict = h.strict;
      here = refl;
      answer = a ∙ within_begun m.behind p.before p.behind (named p.part ks);
    }

pub reached_last : (s : Syntax) (r xs : List ℕ) (all ks : List (List ℕ)) → Reached s r all xs ks → ks ≡ []
    → Some xs ≡ option_map (begun r) (named s all)
reached_last s r xs all ks m e = ap (λ ys. Some ys) m.here
    ∙ sym (m.answer ∙ ap (λ ls. option_map (begun m.behind) (named m.value ls)) e)

pub onward_next : (s : Syntax) (r k : List ℕ) (all ks : List (List ℕ)) (here : Option (List ℕ)) (o : Option (Bor (List ℕ)))
    → Onward s r all (k ∷ ks) here → Steps k here (Ok o) → Onward s r all ks (option_map (λ x. chars x.now) o)
onward_next s r k all ks None o h f = subst (Onward s r all ks) (sym f) h
onward_next s r k all ks (Some xs) o m f =
    reached_next s r xs k all ks m (option_map (λ x. chars x.now) o) (f m.value m.behind m.spelled m.strict m.here)

pub onward_error : (s : Syntax) (r k : List ℕ) (all ks : List (List ℕ)) (here : Option (List ℕ)) (e : JsonParseError)
    → Onward s r all (k ∷ ks) here → Steps k here (Err e) → IsExhausted e
onward_error s r k all ks None e h f = f
onward_error s r k all ks (Some xs) e m f = f m.value m.behind m.spelled m.strict m.here

pub onward_last : (s : Syntax) (r : List ℕ) (all ks : List (List ℕ)) (here : Option (List ℕ)) → Onward s r all ks here → ks ≡ []
    → here ≡ option_map (begun r) (named s all)
onward_last s r all ks None h e = sym h
onward_last s r all ks (Some xs) m e = reached_last s r xs all ks m e

-- an error that is passed on
pub exhausted_back : (r : List ℕ) (o : Option Spot) (result : Result (Option (Bor (List ℕ))) JsonParseError) (e : JsonParseError)
    → IsErrAnd result (λ d. d ≡ e) → IsExhausted e → FindsFrom r o result
exhausted_back r o (Ok x) e h k = absurd h
exhausted_back r o (Err d) e h k = subst IsExhausted (sym h) k
