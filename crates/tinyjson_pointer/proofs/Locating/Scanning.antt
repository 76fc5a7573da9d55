-- What is passed outside of strings: white space, and values with all that is in them.
use Rattle.std.proofs.Common.{◌≡◌, ℕ, zero, suc, Bool, true, false, not, ◌==◌, ◌||◌, List, [], ◌∷◌, ◌++◌, Option, Some, None}
use Rattle.std.proofs.Common.{codes, refl, ap, ◌∙◌, ◌⊎◌, inl, inr, append_assoc, arith}
use Rattle.std.specs.Prelude.{IsTrue, IfSome, ⊤}
use Rattle.std.specs.Char.{is_ascii_digit}
use Rattle.std.proofs.lemmas.Bool.Decides.{nat_tests}
use Rattle.tinyjson_grammar.proofs.Callers.Laws.{last_element_assoc, element_assoc, last_pair_assoc, pair_assoc}
use Rattle.tinyjson_grammar.specs.Characters.{is_white, is_hex}
use Rattle.tinyjson_grammar.specs.Syntax.{Piece, plain, escape, unit, piece_text, pieces_text, IsPiece, ArePieces}
use Rattle.tinyjson_grammar.specs.Syntax.{Syntax, Elements, Pairs, null, boolean, number, string, empty_array, array, empty_object}
use Rattle.tinyjson_grammar.specs.Syntax.{object}
use Rattle.tinyjson_grammar.specs.Syntax.{last_element, element, last_pair, pair, text, elements_text, pairs_text, AreWhite, IsSpelled}
use Rattle.tinyjson_grammar.specs.Syntax.{AreElements, ArePairs}
use Rattle.tinyjson_number.specs.Numeral.{Numeral, Exponent, AreDigits, IsNumeral, IsExponent, is_exponent_letter, is_sign}
use Rattle.tinyjson_number.specs.Numeral.{minus_text, sign_text, fraction_text, exponent_text, spelling}
use Rattle.tinyjson_pointer.specs.declared.place.scan.Scan.TheVariants.{Outside, Quoted}
use Rattle.tinyjson_pointer.specs.declared.place.scan.Seen.TheVariants.{Goes}
use Rattle.tinyjson_pointer.specs.private.Scan.{see, stops, go_on, after}

-- a comma or a colon
abbrev pub IsStop : ℕ → Type 0
IsStop stop = (stop ≡ 44) ⊎ (stop ≡ 58)

-- ---- characters without a meaning of their own

-- neither a quotation mark nor a bracket nor a brace nor a comma nor a colon
abbrev pub is_inert : ℕ → Bool
is_inert c = not ((c == 34) || ((c == 91) || ((c == 123) || ((c == 93) || ((c == 125) || ((c == 44) || (c == 58)))))))

abbrev pub AllInert : List ℕ → Type 0
AllInert [] = ⊤
AllInert (c ∷ cs) = (is_inert c ≡ true) × AllInert cs

other : (stop c : ℕ) → IsStop stop → is_inert c ≡ true → (c == stop) ≡ false
other stop c (inl e) h = grind (arith, nat_tests)
other stop c (inr e) h = grind (arith, nat_tests)

stops_none : (n : ℕ) → stops n false ≡ Goes (Outside n)
stops_none zero = refl
stops_none (suc n) = refl

inert_sees : (stop n c : ℕ) → IsStop stop → is_inert c ≡ true → see stop (Outside n) c ≡ Goes (Outside n)
inert_sees stop n c k h =
    let q : (c == 34) ≡ false = grind (arith, nat_tests) in
    let a : (c == 91) ≡ false = grind (arith, nat_tests) in
    let b : (c == 123) ≡ false = grind (arith, nat_tests) in
    let d : (c == 93) ≡ false = grind (arith, nat_tests) in
    let e : (c == 125) ≡ false = grind (arith, nat_tests) in
    rw (q, a, b, d, e, other stop c k h) (stops_none n)

pub inert_passes : (stop n : ℕ) (xs ys : List ℕ) → IsStop stop → AllInert xs
    → after stop (Outside n) (xs ++ ys) ≡ after stop (Outside n) ys
inert_passes stop n [] ys k h = refl
inert_passes stop n (x ∷ xs) ys k h =
    ap (λ s. go_on (λ t. after stop t (xs ++ ys)) s (xs ++ ys)) (inert_sees stop n x k h.0) ∙ inert_passes stop n xs ys k h.1

inert_append : (xs ys : List ℕ) → AllInert xs → AllInert ys → AllInert (xs ++ ys)
inert_append [] ys h k = k
inert_append (x ∷ xs) ys h k = (h.0, inert_append xs ys h.1 k)

white_is_inert : (c : ℕ) → IsTrue (is_white c) → is_inert c ≡ true
white_is_inert c h = grind (arith, nat_tests)

white_inert : (w : List ℕ) → AreWhite w → AllInert w
white_inert [] h = tt
white_inert (c ∷ cs) h = (white_is_inert c h.0, white_inert cs h.1)

digit_is_inert : (c : ℕ) → IsTrue (is_ascii_digit c) → is_inert c ≡ true
digit_is_inert c h = grind (arith, nat_tests)

digits_inert : (ds : List ℕ) → AreDigits ds → AllInert ds
digits_inert [] h = tt
digits_inert (d ∷ ds) h = (digit_is_inert d h.0, digits_inert ds h.1)

-- ---- numbers

minus_inert : (b : Bool) → AllInert (minus_text b)
minus_inert true = (refl, tt)
minus_inert false = tt

fraction_inert : (ds : List ℕ) → AreDigits ds → AllInert (fraction_text ds)
fraction_inert [] h = tt
fraction_inert (d ∷ ds) h = (refl, digits_inert (d ∷ ds) h)

letter_is_inert : (c : ℕ) → IsTrue (is_exponent_letter c) → is_inert c ≡ true
letter_is_inert c h = grind (arith, nat_tests)

sign_is_inert : (c : ℕ) → IsTrue (is_sign c) → is_inert c ≡ true
sign_is_inert c h = grind (arith, nat_tests)

sign_inert : (o : Option ℕ) → IfSome o (λ c. IsTrue (is_sign c)) → AllInert (sign_text o)
sign_inert None h = tt
sign_inert (Some c) h = (sign_is_inert c h, tt)

exponent_inert : (o : Option Exponent) → IfSome o IsExponent → AllInert (exponent_text o)
exponent_inert None h = tt
exponent_inert (Some e) h = (
  letter_is_inert e.letter h.letter,
  inert_append (sign_text e.sign) e.digits (sign_inert e.sign h.sign) (digits_inert e.digits h.digits),
)

pub numeral_inert : (n : Numeral) → IsNumeral n → AllInert (spelling n)
numeral_inert n h = inert_append (minus_text n.negative) _ (minus_inert n.negative)
    (inert_append n.integer _ (digits_inert n.integer h.integer)
    (inert_append (fraction_text n.fraction) _ (fraction_inert n.fraction h.fraction) (exponent_inert n.exponent h.exponent)))

-- ---- strings

abbrev is_other : ℕ → Bool
is_other c = not ((c == 34) || (c == 92))

quoted_sees : (stop n c : ℕ) → is_other c ≡ true → see stop (Quoted n) c ≡ Goes (Quoted n)
quoted_sees stop n c h =
    let q : (c == 34) ≡ false = grind (arith, nat_tests) in
    let b : (c == 92) ≡ false = grind (arith, nat_tests) in
    rw (q, b)

quoted_passes : (stop n c : ℕ) (xs : List ℕ) → is_other c ≡ true → after stop (Quoted n) (c ∷ xs) ≡ after stop (Quoted n) xs
quoted_passes stop n c xs h = ap (λ s. go_on (λ t. after stop t xs) s xs) (quoted_sees stop n c h)

hex_is_other : (c : ℕ) → IsTrue (is_hex c) → is_other c ≡ true
hex_is_other c h = grind (arith, nat_tests)

piece_passes : (stop n : ℕ) (p : Piece) (xs : List ℕ) → IsPiece p → after stop (Quoted n) (piece_text p ++ xs) ≡ after stop (Quoted n) xs
piece_passes stop n (plain c) xs h = quoted_passes stop n c xs h.2
piece_passes stop n (escape c) xs h = refl
piece_passes stop n (unit a b c d) xs h =
    quoted_passes stop n a (b ∷ c ∷ d ∷ xs) (hex_is_other a h.0) ∙ (quoted_passes stop n b (c ∷ d ∷ xs) (hex_is_other b h.1)
    ∙ (quoted_passes stop n c (d ∷ xs) (hex_is_other c h.2) ∙ quoted_passes stop n d xs (hex_is_other d h.3)))

pieces_pass : (stop n : ℕ) (ps : List Piece) (xs : List ℕ) → ArePieces ps
    → after stop (Quoted n) (pieces_text ps ++ xs) ≡ after stop (Quoted n) xs
pieces_pass stop n [] xs h = refl
pieces_pass stop n (p ∷ ps) xs h =
    ap (after stop (Quoted n)) (append_assoc (piece_text p) (pieces_text ps) xs)
    ∙ (piece_passes stop n p (pieces_text ps ++ xs) h.0 ∙ pieces_pass stop n ps xs h.1)

-- ---- values

-- what is passed, with white space around it
around : (stop n : ℕ) (v t w xs : List ℕ) → IsStop stop → AreWhite v → AreWhite w
    → after stop (Outside n) (t ++ (w ++ xs)) ≡ after stop (Outside n) (w ++ xs)
    → after stop (Outside n) (v ++ (t ++ (w ++ xs))) ≡ after stop (Outside n) xs
around stop n v t w xs k h j e = inert_passes stop n v _ k (white_inert v h) ∙ (e ∙ inert_passes stop n w xs k (white_inert w j))

mutual
  pub value_passes : (s : Syntax) (stop n : ℕ) (xs : List ℕ) → IsStop stop → IsSpelled s
      → after stop (Outside n) (text s ++ xs) ≡ after stop (Outside n) xs
  value_passes null stop n xs k h = inert_passes stop n (codes "null") xs k (refl, (refl, (refl, (refl, tt))))
  value_passes (boolean true) stop n xs k h = inert_passes stop n (codes "true") xs k (refl, (refl, (refl, (refl, tt))))
  value_passes (boolean false) stop n xs k h =
      inert_passes stop n (codes "false") xs k (refl, (refl, (refl, (refl, (refl, tt)))))
  value_passes (number m) stop n xs k h = inert_passes stop n (spelling m) xs k (numeral_inert m h)
  value_passes (string ps) stop n xs k h =
      ap (after stop (Quoted n)) (append_assoc (pieces_text ps) (34 ∷ []) xs) ∙ pieces_pass stop n ps (34 ∷ xs) h
  value_passes (empty_array w) stop n xs k h = ap (after stop (Outside (suc n))) (append_assoc w (93 ∷ []) xs)
      ∙ inert_passes stop (suc n) w (93 ∷ xs) k (white_inert w h)
  value_passes (array es) stop n xs k h = ap (after stop (Outside (suc n))) (append_assoc (elements_text es) (93 ∷ []) xs)
      ∙ elements_pass es stop n (93 ∷ xs) k h
  value_passes (empty_object w) stop n xs k h = ap (after stop (Outside (suc n))) (append_assoc w (125 ∷ []) xs)
      ∙ inert_passes stop (suc n) w (125 ∷ xs) k (white_inert w h)
  value_passes (object ps) stop n xs k h = ap (after stop (Outside (suc n))) (append_assoc (pairs_text ps) (125 ∷ []) xs)
      ∙ pairs_pass ps stop n (125 ∷ xs) k h

  elements_pass : (es : Elements) (stop n : ℕ) (xs : List ℕ) → IsStop stop → AreElements es
      → after stop (Outside (suc n)) (elements_text es ++ xs) ≡ after stop (Outside (suc n)) xs
  elements_pass (last_element v s w) stop n xs k h = ap (after stop (Outside (suc n))) (last_element_assoc v (text s) w xs)
      ∙ around stop (suc n) v (text s) w xs k h.0 h.2 (value_passes s stop (suc n) (w ++ xs) k h.1)
  elements_pass (element v s w es) stop n xs k h =
      let ys = 44 ∷ (elements_text es ++ xs) in
      ap (after stop (Outside (suc n))) (element_assoc v (text s) w (elements_text es) xs)
      ∙ (around stop (suc n) v (text s) w ys k h.0 h.2 (value_passes s stop (suc n) (w ++ ys) k h.1) ∙ elements_pass es stop n xs k h.3)

  pairs_pass : (ps : Pairs) (stop n : ℕ) (xs : List ℕ) → IsStop stop → ArePairs ps
      → after stop (Outside (suc n)) (pairs_text ps ++ xs) ≡ after stop (Outside (suc n)) xs
  pairs_pass (last_pair a k b c s d) stop n xs q h =
      let ys = 58 ∷ (c ++ (text s ++ (d ++ xs))) in
      ap (after stop (Outside (suc n))) (last_pair_assoc a (text k) b c (text s) d xs)
      ∙ (around stop (suc n) a (text k) b ys q h.0 h.2 (value_passes k stop (suc n) (b ++ ys) q h.1)
      ∙ around stop (suc n) c (text s) d xs q h.3 h.5 (value_passes s stop (suc n) (d ++ xs) q h.4))
  pairs_pass (pair a k b c s d ps) stop n xs q h =
      let zs = 44 ∷ (pairs_text ps ++ xs) in
      let ys = 58 ∷ (c ++ (text s ++ (d ++ zs))) in
      ap (after stop (Outside (suc n))) (pair_assoc a (text k) b c (text s) d (pairs_text ps) xs)
      ∙ (around stop (suc n) a (text k) b ys q h.0 h.2 (value_passes k stop (suc n) (b ++ ys) q h.1)
      ∙ (around stop (suc n) c (text s) d zs q h.3 h.5 (value_passes s stop (suc n) (d ++ zs) q h.4) ∙ pairs_pass ps stop n xs q h.6))

-- a value with white space around it
pub part_passes : (s : Syntax) (stop n : ℕ) (v w xs : List ℕ) → IsStop stop → AreWhite v → IsSpelled s → AreWhite w
    → after stop (Outside n) (v ++ (text s ++ (w ++ xs))) ≡ after stop (Outside n) xs
part_passes s stop n v w xs k h i j = around stop n v (text s) w xs k h j (value_passes s stop n (w ++ xs) k i)
