-- White space between tokens changes no tree: a text without it is the text of the bare value.
use Rattle.std.proofs.Common.{◌≡◌, ℕ, Bool, true, false, List, [], ◌∷◌, ◌++◌, Option, Some, None, refl, sym, ap, ◌∙◌, append_assoc}
use Rattle.std.proofs.Common.{append-nil, subst, arith, IsTrue, not, ◌==◌, ◌||◌}
use Rattle.std.specs.Prelude.{⊤, IfSome}
use Rattle.std.specs.Char.{is_ascii_digit}
use Rattle.tinyjson_grammar.specs.Characters.{is_white, is_hex}
use Rattle.tinyjson_number.specs.Numeral.{Numeral, Exponent, IsNumeral, IsExponent, AreDigits, minus_text, sign_text, fraction_text}
use Rattle.tinyjson_number.specs.Numeral.{exponent_text, spelling, power_width}
use Rattle.tinyjson_grammar.specs.Syntax.{Syntax, Elements, Pairs, null, boolean, number, string, empty_array, array, empty_object, object}
use Rattle.tinyjson_grammar.specs.Syntax.{last_element, element, last_pair, pair, Piece, plain, escape, unit, pieces_text, ArePieces, text}
use Rattle.tinyjson_grammar.specs.Syntax.{elements_text, pairs_text, AreWhite, IsSpelled, IsStrictAt, tree_of, AreElements, ArePairs}
use Rattle.tinyjson_laws.specs.WhiteSpace.{bare_value, bare_elements, bare_pairs, outside, in_string, kept_from, without_white}
use Rattle.tinyjson_laws.specs.WhiteSpace.{WhiteRemoved, SameButWhite, WhiteChangesNothing}
use Rattle.tinyjson_grammar.specs.Grammar.{IsLoose, IsText}
use Rattle.tinyjson_grammar.proofs.Callers.Laws.{only_tree, last_element_assoc, element_assoc, last_pair_assoc, pair_assoc}
use Rattle.tinyjson_laws.proofs.Bare.{bare_spelled, bare_depth, bare_tree, bare_strict}

-- ---- white space goes, other characters outside strings stay

white_not_quote : (c : ℕ) → IsTrue (is_white c) → (c == 34) ≡ false
white_not_quote c h = grind arith

pub white_goes : (w xs : List ℕ) → AreWhite w → kept_from outside (w ++ xs) ≡ kept_from outside xs
white_goes [] xs h = refl
white_goes (c ∷ cs) xs h = rw (h.0, white_not_quote c h.0) (white_goes cs xs h.1)

-- neither white nor a quote
abbrev Stays : ℕ → Type 0
Stays c = (is_white c ≡ false) × ((c == 34) ≡ false)

abbrev AllStay : List ℕ → Type 0
AllStay [] = ⊤
AllStay (c ∷ cs) = Stays c × AllStay cs

stay : (cs xs : List ℕ) → AllStay cs → kept_from outside (cs ++ xs) ≡ cs ++ kept_from outside xs
stay [] xs h = refl
stay (c ∷ cs) xs h = rw (h.0.0, h.0.1) (ap (λ z. c ∷ z) (stay cs xs h.1))

stay_join : (xs ys : List ℕ) → AllStay xs → AllStay ys → AllStay (xs ++ ys)
stay_join [] ys h k = k
stay_join (x ∷ xs) ys h k = (h.0, stay_join xs ys h.1 k)

digit_stays : (c : ℕ) → IsTrue (is_ascii_digit c) → Stays c
digit_stays c h = (grind arith, grind arith)

letter_stays : (c : ℕ) → IsTrue ((c == 101) || (c == 69)) → Stays c
letter_stays c h = (grind arith, grind arith)

sign_stays : (c : ℕ) → IsTrue ((c == 43) || (c == 45)) → Stays c
sign_stays c h = (grind arith, grind arith)

digits_stay : (ds : List ℕ) → AreDigits ds → AllStay ds
digits_stay [] h = tt
digits_stay (d ∷ ds) h = (digit_stays d h.0, digits_stay ds h.1)

minus_stays : (b : Bool) → AllStay (minus_text b)
minus_stays true = ((refl, refl), tt)
minus_stays false = tt

fraction_stays : (f : List ℕ) → AreDigits f → AllStay (fraction_text f)
fraction_stays [] h = tt
fraction_stays (d ∷ ds) h = ((refl, refl), digits_stay (d ∷ ds) h)

sign_text_stays : (s : Option ℕ) → IfSome s (λ c. IsTrue ((c == 43) || (c == 45))) → AllStay (sign_text s)
sign_text_stays None h = tt
sign_text_stays (Some c) h = (sign_stays c h, tt)

exponent_stays : (e : Option Exponent) → IfSome e IsExponent → AllStay (exponent_text e)
exponent_stays None h = tt
exponent_stays (Some e) h = (
  letter_stays e.letter h.letter,
  stay_join (sign_text e.sign) e.digits (sign_text_stays e.sign h.sign) (digits_stay e.digits h.digits),
)

numeral_stays : (n : Numeral) → IsNumeral n → AllStay (spelling n)
numeral_stays n h = stay_join (minus_text n.negative) _ (minus_stays n.negative) (stay_join n.integer _ (digits_stay n.integer h.integer)
    (stay_join (fraction_text n.fraction) _ (fraction_stays n.fraction h.fraction) (exponent_stays n.exponent h.exponent)))

-- ---- strings stay

plain_stays : (c : ℕ) → IsTrue (not ((c == 34) || (c == 92))) → ((c == 34) ≡ false) × ((c == 92) ≡ false)
plain_stays c h = (grind arith, grind arith)

hex_stays : (c : ℕ) → IsTrue (is_hex c) → ((c == 34) ≡ false) × ((c == 92) ≡ false)
hex_stays c h = (grind arith, grind arith)

pieces_stay : (ps : List Piece) (xs : List ℕ) → ArePieces ps
    → kept_from in_string (pieces_text ps ++ 34 ∷ xs) ≡ pieces_text ps ++ 34 ∷ kept_from outside xs
pieces_stay [] xs h = refl
pieces_stay (plain c ∷ ps) xs h = let k = plain_stays c h.0.2 in rw (k.0, k.1) (ap (λ z. c ∷ z) (pieces_stay ps xs h.1))
pieces_stay (escape c ∷ ps) xs h = ap (λ z. 92 ∷ c ∷ z) (pieces_stay ps xs h.1)
pieces_stay (unit a b c d ∷ ps) xs h =
    let i = hex_stays a h.0.0 in
    let j = hex_stays b h.0.1 in
    let k = hex_stays c h.0.2 in
    let l = hex_stays d h.0.3 in
    rw (i.0, i.1, j.0, j.1, k.0, k.1, l.0, l.1) (ap (λ z. 92 ∷ 117 ∷ a ∷ b ∷ c ∷ d ∷ z) (pieces_stay ps xs h.1))

-- ---- values

string_kept : (ps : List Piece) (xs : List ℕ) → ArePieces ps
    → kept_from outside ((34 ∷ (pieces_text ps ++ 34 ∷ [])) ++ xs) ≡ (34 ∷ (pieces_text ps ++ 34 ∷ [])) ++ kept_from outside xs
string_kept ps xs h = ap (λ z. 34 ∷ kept_from in_string z) (append_assoc (pieces_text ps) (34 ∷ []) xs)
    ∙ ap (λ z. 34 ∷ z) (pieces_stay ps xs h ∙ sym (append_assoc (pieces_text ps) (34 ∷ []) (kept_from outside xs)))

mutual
  pub value_kept : (s : Syntax) (xs : List ℕ) → IsSpelled s → kept_from outside (text s ++ xs) ≡ text (bare_value s) ++ kept_from outside xs
  value_kept null xs h = refl
  value_kept (boolean true) xs h = refl
  value_kept (boolean false) xs h = refl
  value_kept (number n) xs h = stay (spelling n) xs (numeral_stays n h)
  value_kept (string ps) xs h = string_kept ps xs h
  value_kept (empty_array w) xs h = ap (λ z. 91 ∷ kept_from outside z) (append_assoc w (93 ∷ []) xs)
      ∙ ap (λ z. 91 ∷ z) (white_goes w (93 ∷ xs) h)
  value_kept (array es) xs h =
      ap (λ z. 91 ∷ kept_from outside z) (append_assoc (elements_text es) (93 ∷ []) xs)
      ∙ ap (λ z. 91 ∷ z) (elements_kept es (93 ∷ xs) h
      ∙ sym (append_assoc (elements_text (bare_elements es)) (93 ∷ []) (kept_from outside xs)))
  value_kept (empty_object w) xs h = ap (λ z. 123 ∷ kept_from outside z) (append_assoc w (125 ∷ []) xs)
      ∙ ap (λ z. 123 ∷ z) (white_goes w (125 ∷ xs) h)
  value_kept (object ps) xs h =
      ap (λ z. 123 ∷ kept_from outside z) (append_assoc (pairs_text ps) (125 ∷ []) xs)
      ∙ ap (λ z. 123 ∷ z) (pairs_kept ps (125 ∷ xs) h ∙ sym (append_assoc (pairs_text (bare_pairs ps)) (125 ∷ []) (kept_from outside xs)))

  elements_kept : (es : Elements) (xs : List ℕ) → AreElements es
      → kept_from outside (elements_text es ++ xs) ≡ elements_text (bare_elements es) ++ kept_from outside xs
  elements_kept (last_element v s w) xs h = ap (kept_from outside) (last_element_assoc v (text s) w xs)
      ∙ white_goes v _ h.0 ∙ value_kept s (w ++ xs) h.1 ∙ ap (λ z. text (bare_value s) ++ z) (white_goes w xs h.2)
      ∙ sym (last_element_assoc [] (text (bare_value s)) [] (kept_from outside xs))
  elements_kept (element v s w es) xs h = ap (kept_from outside) (element_assoc v (text s) w (elements_text es) xs)
      ∙ white_goes v _ h.0 ∙ value_kept s _ h.1 ∙ ap (λ z. text (bare_value s) ++ z) (white_goes w _ h.2
      ∙ ap (λ z. 44 ∷ z) (elements_kept es xs h.3))
      ∙ sym (element_assoc [] (text (bare_value s)) [] (elements_text (bare_elements es)) (kept_from outside xs))

  pairs_kept : (ps : Pairs) (xs : List ℕ) → ArePairs ps
      → kept_from outside (pairs_text ps ++ xs) ≡ pairs_text (bare_pairs ps) ++ kept_from outside xs
  pairs_kept (last_pair a k b c s d) xs h = ap (kept_from outside) (last_pair_assoc a (text k) b c (text s) d xs)
      ∙ white_goes a _ h.0 ∙ value_kept k _ h.1 ∙ ap (λ z. text (bare_value k) ++ z) (white_goes b _ h.2
      ∙ ap (λ z. 58 ∷ z) (white_goes c _ h.3 ∙ value_kept s _ h.4 ∙ ap (λ z. text (bare_value s) ++ z) (white_goes d xs h.5)))
      ∙ sym (last_pair_assoc [] (text (bare_value k)) [] [] (text (bare_value s)) [] (kept_from outside xs))
  pairs_kept (pair a k b c s d ps) xs h = ap (kept_from outside) (pair_assoc a (text k) b c (text s) d (pairs_text ps) xs)
      ∙ white_goes a _ h.0 ∙ value_kept k _ h.1 ∙ ap (λ z. text (bare_value k) ++ z) (white_goes b _ h.2
      ∙ ap (λ z. 58 ∷ z) (white_goes c _ h.3 ∙ value_kept s _ h.4
      ∙ ap (λ z. text (bare_value s) ++ z) (white_goes d _ h.5 ∙ ap (λ z. 44 ∷ z) (pairs_kept ps xs h.6))))
      ∙ sym (pair_assoc [] (text (bare_value k)) [] [] (text (bare_value s)) [] (pairs_text (bare_pairs ps)) (kept_from outside xs))

-- ---- texts

text_without_white : (limit : Option ℕ) (xs : List ℕ) (l : IsLoose limit xs) → without_white xs ≡ text (bare_value l.value)
text_without_white limit xs l = ap without_white l.whole
    ∙ white_goes l.before _ l.white_before
    ∙ value_kept l.value l.after l.spelled
    ∙ ap (λ z. text (bare_value l.value) ++ z) (ap (kept_from outside) (sym (append-nil l.after)) ∙ white_goes l.after [] l.white_after)
    ∙ append-nil (text (bare_value l.value))

pub white_removed : WhiteRemoved
white_removed limit xs t h =
    let l = h.loose in record {
      loose = record {
        before = [];
        value = bare_value l.value;
        after = [];
        white_before = tt;
        spelled = bare_spelled l.value l.spelled;
        white_after = tt;
        shallow = rw (bare_depth l.value) l.shallow;
        whole = text_without_white limit xs l ∙ sym (append-nil (text (bare_value l.value)));
      };
      strict = subst (λ T. T) (sym (bare_strict power_width l.value)) h.strict;
      tree = h.tree ∙ sym (bare_tree l.value);
    }

pub same_but_white : SameButWhite
same_but_white limit xs ys t u h j e = only_tree limit (without_white ys) t u
    (subst (λ z. IsText limit z t) e (white_removed limit xs t h)) (white_removed limit ys u j)

pub white_changes_nothing : WhiteChangesNothing
white_changes_nothing limit xs ys t h m e = record {
  loose = m;
  strict = subst (λ T. T) (sym (bare_strict power_width h.loose.value) ∙ ap (IsStrictAt power_width) e
      ∙ bare_strict power_width m.value) h.strict;
  tree = h.tree ∙ sym (bare_tree h.loose.value) ∙ ap tree_of e ∙ bare_tree m.value;
}
