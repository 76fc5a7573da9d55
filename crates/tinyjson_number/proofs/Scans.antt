-- A text begins with at most one number, and its parts are found from left to right.
use Rattle.std.proofs.Common.{◌≡◌, ℕ, ◌+◌, ◌-◌, ◌<◌, cond, ⊎_elim, add-one, ◌≤◌, Bool, true, false, ◌==◌, List, [], ◌∷◌, ◌++◌, length, take}
use Rattle.std.proofs.Common.{drop, get_or, IsTrue, Option, Some, None, IfSome, sym, refl, ap, ◌∙◌, subst, arith, suc, drop-cons}
use Rattle.std.proofs.Common.{append_assoc, append-nil, take-append-drop}
use Rattle.std.specs.Prelude.{if◌then◌else◌}
use Rattle.std.specs.List.{prefix_len}
use Rattle.std.specs.Char.{is_ascii_digit}
use Rattle.std.proofs.lemmas.Bool.Decides.{nat_tests}
use Rattle.std.proofs.lemmas.Bool.{cases_lt, eqb-true}
use Rattle.std.proofs.lemmas.List.{drop_all, drop-drop, length-drop, nil_from_length}
use Rattle.std.proofs.lemmas.List.Sums.{prefix_len-le-length}
use Rattle.tinyjson_number.specs.Numeral.{numeral, Exponent, Numeral, AreDigits, IsExponent, is_exponent_letter, is_sign, sign_text}
use Rattle.tinyjson_number.specs.Numeral.{minus_text, fraction_text, exponent_text, spelling}
use Rattle.tinyjson_number.specs.NumberText.{Spells}
use Rattle.tinyjson_number.proofs.Runs.{front_digits}
use Rattle.tinyjson_number.specs.Scan.{starts, is_point, EndsNumber, IsGrammatical, NumeralAt, PartsAt}
use Rattle.tinyjson_number.specs.private.Scan.{is_minus, IsMantissa, MantissaAt, NoMantissaAt, IsFraction, FractionAt, NoFractionAt, SignAt}
use Rattle.tinyjson_number.specs.private.Scan.{IsPower, ExponentAt, NoExponentAt}
use Rattle.tinyjson_number.specs.declared.parse.ExponentParts.{ExponentParts}
use Rattle.tinyjson_number.specs.declared.parse.NumberParts.{NumberParts}
use Rattle.tinyjson_number.specs.declared.scan.Mantissa.{Mantissa}

-- ---- what begins with a character

-- a text that begins with a character that passes, and with none
both_starts : (test : ℕ → Bool) (c : ℕ) (cs r : List ℕ) → test c ≡ true → r ≡ c ∷ cs → starts test r ≡ false → ⊥
both_starts test c cs r passes e stops = let t : starts test r ≡ test c = ap (starts test) e in absurd (cc)

digit_other : (c d : ℕ) → IsTrue (is_ascii_digit d) → is_ascii_digit c ≡ false → (d == c) ≡ false
digit_other c d p q = grind (arith, nat_tests)

digit_no_sign : (d : ℕ) → IsTrue (is_ascii_digit d) → is_sign d ≡ false
digit_no_sign d h = grind (arith, nat_tests)

letter_no_digit : (c : ℕ) → IsTrue (is_exponent_letter c) → is_ascii_digit c ≡ false
letter_no_digit c h = grind (arith, nat_tests)

letter_no_point : (c : ℕ) → IsTrue (is_exponent_letter c) → is_point c ≡ false
letter_no_point c h = grind (arith, nat_tests)

digits_no_minus : (ds r : List ℕ) → AreDigits ds → 0 < length ds → starts is_minus (ds ++ r) ≡ false
digits_no_minus [] r are some = absurd (omega arith)
digits_no_minus (d ∷ ds) r are some = digit_other 45 d are.0 refl

digits_no_sign : (ds r : List ℕ) → AreDigits ds → 0 < length ds → starts is_sign (ds ++ r) ≡ false
digits_no_sign [] r are some = absurd (omega arith)
digits_no_sign (d ∷ ds) r are some = digit_no_sign d are.0

fraction_stops : (f r : List ℕ) → starts is_ascii_digit r ≡ false → starts is_ascii_digit (fraction_text f ++ r) ≡ false
fraction_stops [] r stops = stops
fraction_stops (d ∷ ds) r stops = refl

-- ---- each part is the only one

same_minus : (b c : Bool) (x y : List ℕ) → (b ≡ false → starts is_minus x ≡ false) → (c ≡ false → starts is_minus y ≡ false)
    → minus_text b ++ x ≡ minus_text c ++ y → (b ≡ c) × (x ≡ y)
same_minus true true x y p q e = (refl, cc)
same_minus false false x y p q e = (refl, e)
same_minus true false x y p q e = absurd (both_starts is_minus 45 x y refl (sym e) (q refl))
same_minus false true x y p q e = absurd (both_starts is_minus 45 y x refl e (p refl))

same_digits : (ds es x y : List ℕ) → AreDigits ds → AreDigits es → starts is_ascii_digit x ≡ false → starts is_ascii_digit y ≡ false
    → ds ++ x ≡ es ++ y → (ds ≡ es) × (x ≡ y)
same_digits [] [] x y a b p q e = (refl, e)
same_digits [] (c ∷ es) x y a b p q e = absurd (both_starts is_ascii_digit c (es ++ y) x b.0 e p)
same_digits (d ∷ ds) [] x y a b p q e = absurd (both_starts is_ascii_digit d (ds ++ x) y a.0 (sym e) q)
same_digits (d ∷ ds) (c ∷ es) x y a b p q e =
    let head : d ≡ c = cc in
    let tail : ds ++ x ≡ es ++ y = cc in
    let more = same_digits ds es x y a.1 b.1 p q tail in
    ((λ i. head i ∷ more.0 i), more.1)

same_fraction : (f g text x y : List ℕ) → IsFraction f text x → IsFraction g text y → (f ≡ g) × (x ≡ y)
same_fraction [] [] text x y a b = (refl, sym a.spelled ∙ b.spelled)
same_fraction [] (d ∷ g) text x y a b = absurd (both_starts is_point 46 ((d ∷ g) ++ y) x refl (sym a.spelled ∙ b.spelled) (a.point refl))
same_fraction (d ∷ f) [] text x y a b = absurd (both_starts is_point 46 ((d ∷ f) ++ x) y refl (sym b.spelled ∙ a.spelled) (b.point refl))
same_fraction (d ∷ f) (c ∷ g) text x y a b = grind (arith, same_digits)

same_sign : (s t : Option ℕ) (x y : List ℕ) → IfSome s (λ c. IsTrue (is_sign c)) → IfSome t (λ c. IsTrue (is_sign c))
    → (s ≡ None → starts is_sign x ≡ false) → (t ≡ None → starts is_sign y ≡ false)
    → sign_text s ++ x ≡ sign_text t ++ y → (s ≡ t) × (x ≡ y)
same_sign None None x y a b p q e = (refl, e)
same_sign None (Some c) x y a b p q e = absurd (both_starts is_sign c y x b e (p refl))
same_sign (Some d) None x y a b p q e = absurd (both_starts is_sign d x y a (sym e) (q refl))
same_sign (Some d) (Some c) x y a b p q e = let head : d ≡ c = cc in (ap Some head, ap (drop 1) e)

module _ (b c : Bool) (ds es f g text x y : List ℕ) (m : IsMantissa b ds f text x) (n : IsMantissa c es g text y) where
  minus : (b ≡ c) × (ds ++ (fraction_text f ++ x) ≡ es ++ (fraction_text g ++ y))
  minus = grind arith

  integer : (ds ≡ es) × (fraction_text f ++ x ≡ fraction_text g ++ y)
  integer = same_digits ds es (fraction_text f ++ x) (fraction_text g ++ y) m.integer_digits n.integer_digits (fraction_stops f x m.digit)
      (fraction_stops g y n.digit) minus.1

  fraction : (f ≡ g) × (x ≡ y)
  fraction = let of_f : IsFraction f (fraction_text f ++ x) x = grind arith in
      let of_g : IsFraction g (fraction_text f ++ x) y =
      record { are = n.fraction_digits; spelled = integer.1; digit = n.digit; point = n.point } in
      same_fraction f g (fraction_text f ++ x) x y of_f of_g

  same_mantissa : (b ≡ c) × (ds ≡ es) × (f ≡ g) × (x ≡ y)
  same_mantissa = (minus.0, integer.0, fraction.0, fraction.1)

-- the sign and the digits of the code, which may have none, and those of an exponent
power_digits : (s t : Option ℕ) (ds es x y : List ℕ) → IfSome s (λ c. IsTrue (is_sign c))
    → (s ≡ None → starts is_sign (ds ++ x) ≡ false) → AreDigits ds → starts is_ascii_digit x ≡ false → (text : List ℕ)
    → text ≡ sign_text s ++ (ds ++ x) → IsPower t es text y → (s ≡ t) × (ds ≡ es) × (x ≡ y)
power_digits s t ds es x y known none are stops text spelled p =
    let sign = same_sign s t (ds ++ x) (es ++ y) known p.known none (λ _. digits_no_sign es y p.are p.some_digit)
    (sym spelled ∙ p.spelled) in
    let digits = same_digits ds es x y are p.are stops p.digit sign.1 in
    (sign.0, digits.0, digits.1)

-- ---- a number and its parts

apart : (n : Numeral) (rest : List ℕ)
    → spelling n ++ rest ≡ minus_text n.negative ++ (n.integer ++ (fraction_text n.fraction ++ (exponent_text n.exponent ++ rest)))
apart n rest = search append_assoc

module _ (n : Numeral) (text rest : List ℕ) (g : IsGrammatical n) (spelled : text ≡ spelling n ++ rest) (ends : EndsNumber n rest) where
  exponent_digit : (e : Option Exponent) → n.exponent ≡ e → IfSome e IsExponent → starts is_ascii_digit (exponent_text e ++ rest) ≡ false
  exponent_digit None e h = ends.digit
  exponent_digit (Some x) e h = letter_no_digit x.letter h.letter

  exponent_point : (e : Option Exponent) → n.exponent ≡ e → IfSome e IsExponent → n.fraction ≡ []
      → starts is_point (exponent_text e ++ rest) ≡ false
  exponent_point None e h f = ends.point f e
  exponent_point (Some x) e h f = letter_no_point x.letter h.letter

  mantissa_of : IsMantissa n.negative n.integer n.fraction text (exponent_text n.exponent ++ rest)
  mantissa_of = grind (arith, apart, exponent_point)

power_of : (x : Exponent) (rest : List ℕ) → IsExponent x → starts is_ascii_digit rest ≡ false
    → IsPower x.sign x.digits ((sign_text x.sign ++ x.digits) ++ rest) rest
power_of x rest h stops = search append_assoc

-- after a letter the power of the exponent follows
lettered : (e : Option Exponent) (c : ℕ) (cs rest : List ℕ) → IfSome e IsExponent → starts is_ascii_digit rest ≡ false
    → (e ≡ None → starts is_exponent_letter rest ≡ false) → is_exponent_letter c ≡ true → c ∷ cs ≡ exponent_text e ++ rest
    → (x : Exponent) × (e ≡ Some x) × (c ≡ x.letter) × IsPower x.sign x.digits cs rest
lettered None c cs rest h stops none letter e = absurd (both_starts is_exponent_letter c cs rest letter (sym e) (none refl))
lettered (Some x) c cs rest h stops none letter e = grind arith

-- without a letter there is no exponent
unlettered : (e : Option Exponent) (text rest : List ℕ) → IfSome e IsExponent → starts is_exponent_letter text ≡ false
    → text ≡ exponent_text e ++ rest → (e ≡ None) × (text ≡ rest)
unlettered None text rest h stops e = (refl, e)
unlettered (Some x) text rest h stops e = absurd (both_starts is_exponent_letter x.letter
    ((sign_text x.sign ++ x.digits) ++ rest) text h.letter e stops)

same_exponent : (e k : Option Exponent) (r s : List ℕ) → IfSome e IsExponent → IfSome k IsExponent → starts is_ascii_digit r ≡ false
    → starts is_ascii_digit s ≡ false → (e ≡ None → starts is_exponent_letter r ≡ false) → (k ≡ None → starts is_exponent_letter s ≡ false)
    → exponent_text e ++ r ≡ exponent_text k ++ s → (e ≡ k) × (r ≡ s)
same_exponent None k r s h j p q l m t = let u = unlettered k r s j (l refl) t in (sym u.0, u.1)
same_exponent (Some x) k r s h j p q l m t =
    let u = lettered k x.letter ((sign_text x.sign ++ x.digits) ++ r) s j q m h.letter t in
    let a = power_of x r h p in
    let v = power_digits x.sign u.0.sign x.digits u.0.digits r s a.known (λ _. digits_no_sign x.digits r h.digits h.some_digit) h.digits p
    ((sign_text x.sign ++ x.digits) ++ r) a.spelled u.3 in
    ((λ i. Some (record { letter = u.2 i; sign = v.0 i; digits = v.1 i })) ∙ sym u.1, v.2)

module _ (m n : Numeral) (text r s : List ℕ) (g : IsGrammatical m) (mt : text ≡ spelling m ++ r) (me : EndsNumber m r) (h : IsGrammatical n)
    (nt : text ≡ spelling n ++ s) (ne : EndsNumber n s) where
  -- a text begins with at most one number
  same_numeral : (m ≡ n) × (r ≡ s)
  same_numeral =
      let a = same_mantissa m.negative n.negative m.integer n.integer m.fraction n.fraction text (exponent_text m.exponent ++ r)
      (exponent_text n.exponent ++ s) (mantissa_of m text r g mt me) (mantissa_of n text s h nt ne) in
      let e = same_exponent m.exponent n.exponent r s g.well_formed.exponent h.well_formed.exponent me.digit ne.digit me.letter ne.letter
      a.3 in
      ((λ i. record { negative = a.0 i; integer = a.1 i; fraction = a.2 i; exponent = e.0 i }), e.1)

-- ---- the whole text

grammatical : (n : Numeral) (text : List ℕ) → Spells n text → IsGrammatical n
grammatical n text h = record { well_formed = h.well_formed; no_leading_zero = h.no_leading_zero }

ends_at_end : (n : Numeral) → EndsNumber n []
ends_at_end n = record { digit = refl; point = λ f e. refl; letter = λ e. refl }

whole : (n : Numeral) (text : List ℕ) → Spells n text → text ≡ spelling n ++ []
whole n text h = sym h.spelled ∙ sym (append-nil (spelling n))

-- a text spells at most one numeral
pub one_numeral : (text : List ℕ) (m n : Numeral) → Spells m text → Spells n text → m ≡ n
one_numeral text m n p q = (same_numeral m n text [] [] (grammatical m text p) (whole m text p) (ends_at_end m) (grammatical n text q)
    (whole n text q) (ends_at_end n)).0

module _ (text : List ℕ) (n : Numeral) where
  nothing_left : drop (length text) text ≡ []
  nothing_left = drop_all (length text) text (omega arith)

  -- a text that spells a number has it at its beginning
  pub spelled_at : Spells n text → NumeralAt text 0 n (length text)
  spelled_at h = record {
    grammatical = grammatical n text h;
    spelled = whole n text h ∙ ap (λ t. spelling n ++ t) (sym nothing_left);
    within = omega arith;
    ends = subst (EndsNumber n) (sym nothing_left) (ends_at_end n);
  }

-- where the number of a text ends earlier, the text spells none
pub spells_none : (text : List ℕ) (m n : Numeral) (end : ℕ) → NumeralAt text 0 m end → end < length text → ¬ Spells n text
spells_none text m n end x early s =
    let y = spelled_at text n s in
    let same = same_numeral m n text (drop end text) (drop (length text) text) x.grammatical x.spelled x.ends y.grammatical y.spelled
    y.ends in
    absurd (omega (arith, ap length same.1, length-drop end text, length-drop (length text) text, early))

-- ---- places among the bytes

starts_at : (test : ℕ → Bool) (text : List ℕ) (at : ℕ) → at < length text → starts test (drop at text) ≡ test (get_or text at 0)
starts_at test text at h = ap (starts test) (drop-cons text at 0 h)

starts_past : (test : ℕ → Bool) (text : List ℕ) (at : ℕ) → length text ≤ at → starts test (drop at text) ≡ false
starts_past test text at h = ap (starts test) (drop_all at text h)

shown_first : (test : ℕ → Bool) (text : List ℕ) (at : ℕ) → starts test (drop at text) ≡ true
    → (at < length text) × (test (get_or text at 0) ≡ true) × (drop at text ≡ get_or text at 0 ∷ drop (at + 1) text)
shown_first test text at h = ⊎_elim
    (λ lt. (lt, sym (starts_at test text at lt) ∙ h, drop-cons text at 0 lt ∙ ap (λ k. get_or text at 0 ∷ drop k text) (sym (add-one at))))
    (λ past. let no = starts_past test text at past in absurd (cc)) (cases_lt at (length text))

rest_stops : (xs : List ℕ) → starts is_ascii_digit (drop (prefix_len is_ascii_digit xs) xs) ≡ false
rest_stops [] = refl
rest_stops (x ∷ xs) = go (is_ascii_digit x) refl (rest_stops xs)
  where
    go : (b : Bool) → is_ascii_digit x ≡ b → starts is_ascii_digit (drop (prefix_len is_ascii_digit xs) xs) ≡ false
        → starts is_ascii_digit (drop (cond b (1 + prefix_len is_ascii_digit xs) 0) (x ∷ xs)) ≡ false
    go true e h =
        let n : 1 + prefix_len is_ascii_digit xs ≡ suc (prefix_len is_ascii_digit xs) = omega arith in
        ap (λ k. starts is_ascii_digit (drop k (x ∷ xs))) n ∙ h
    go false e h = e

module _ (text : List ℕ) (from to : ℕ) (e : to ≡ from + prefix_len is_ascii_digit (drop from text)) where
  count : to - from ≡ prefix_len is_ascii_digit (drop from text)
  count = omega (arith, e)

  pub digits_pass : AreDigits (take (to - from) (drop from text))
  digits_pass = subst (λ k. AreDigits (take k (drop from text))) (sym count) (front_digits (drop from text))

  rest_is : drop (to - from) (drop from text) ≡ drop to text
  rest_is = drop-drop (to - from) from text ∙ ap (λ k. drop k text) (omega (arith, e))

  pub digits_split : drop from text ≡ take (to - from) (drop from text) ++ drop to text
  digits_split = sym (take-append-drop (to - from) (drop from text)) ∙ ap (λ t. take (to - from) (drop from text) ++ t) rest_is

  pub digits_stop : starts is_ascii_digit (drop to text) ≡ false
  digits_stop = grind (arith, rest_is, count, rest_stops)

  pub digits_within : from ≤ length text → to ≤ length text
  digits_within h = omega (arith, e, h, prefix_len-le-length is_ascii_digit (drop from text), length-drop from text)

-- ---- what the code finds

pub some_from_test : (b : Bool) (n : ℕ) → b ≡ (n == 0) → b ≡ false → 0 < n
some_from_test b n e h = grind (arith, nat_tests)

pub none_from_test : (b : Bool) (n : ℕ) → b ≡ (n == 0) → b ≡ true → n ≡ 0
none_from_test b n e h = grind (arith, nat_tests)

pointed : (text : List ℕ) (at : ℕ) → starts is_point (drop at text) ≡ true → drop at text ≡ 46 ∷ drop (at + 1) text
pointed text at h = let s = shown_first is_point text at h in s.2 ∙ ap (λ c. c ∷ drop (at + 1) text) (eqb-true (get_or text at 0) 46 s.1)

no_fraction : (f rest more text : List ℕ) → text ≡ 46 ∷ more → starts is_ascii_digit more ≡ false → IsFraction f text rest → ⊥
no_fraction [] rest more text e stops x = both_starts is_point 46 more rest refl (sym x.spelled ∙ e) (x.point refl)
no_fraction (d ∷ f) rest more text e stops x = both_starts is_ascii_digit d (f ++ rest) more x.are.0 (ap (drop 1) (sym e ∙ x.spelled)) stops

pub empty_stops : (text : List ℕ) (at : ℕ) (ds : List ℕ) (end : ℕ) → drop at text ≡ ds ++ drop end text
    → starts is_ascii_digit (drop end text) ≡ false → length ds ≡ 0 → starts is_ascii_digit (drop at text) ≡ false
empty_stops text at ds end split stops empty =
    ap (starts is_ascii_digit) (split ∙ ap (λ t. t ++ drop end text) (nil_from_length ds empty)) ∙ stops

pub no_fraction_at : (text : List ℕ) (at : ℕ) → starts is_point (drop at text) ≡ true → starts is_ascii_digit (drop (at + 1) text) ≡ false
    → NoFractionAt text at
no_fraction_at text at h stops f rest x = no_fraction f rest (drop (at + 1) text) (drop at text) (pointed text at h) stops x

pub fraction_between : (text : List ℕ) (at : ℕ) (ds : List ℕ) (end : ℕ) → starts is_point (drop at text) ≡ true → AreDigits ds
    → 0 < length ds → drop (at + 1) text ≡ ds ++ drop end text → end ≤ length text → starts is_ascii_digit (drop end text) ≡ false
    → FractionAt text at ds end
fraction_between text at [] end h are some split within stops = absurd (omega arith)
fraction_between text at (d ∷ ds) end h are some split within stops =
    (record { are = are; spelled = pointed text at h ∙ ap (λ t. 46 ∷ t) split; digit = stops; point = λ e. absurd (cc) }, within)

pub sign_between : (text : List ℕ) (at : ℕ) (negative : Bool) → starts is_sign (drop at text) ≡ true → negative ≡ (get_or text at 0 == 45)
    → SignAt text at negative (at + 1)
sign_between text at negative h e =
    let s = shown_first is_sign text at h in
    record {
      sign = Some (get_or text at 0);
      known = s.1;
      minus = ap (λ b. if b then Some 45 else None) e;
      spelled = s.2;
      none = λ o. absurd (cc);
      within = omega (arith, s.0);
    }

module _ (text : List ℕ) (at : ℕ) (b : Bool) (from : ℕ) (minus : drop at text ≡ minus_text b ++ drop from text)
    (none : b ≡ false → starts is_minus (drop from text) ≡ false) (ds : List ℕ) (point : ℕ) (are : AreDigits ds)
    (split : drop from text ≡ ds ++ drop point text)
    (stops : starts is_ascii_digit (drop point text) ≡ false) where
  front : (c : Bool) (es g y : List ℕ) → IsMantissa c es g (drop at text) y → (ds ≡ es) × (drop point text ≡ fraction_text g ++ y)
  front c es g y n =
      let m = same_minus b c (drop from text) (es ++ (fraction_text g ++ y)) none
      (λ _. digits_no_minus es (fraction_text g ++ y) n.integer_digits n.some_digit) (sym minus ∙ n.spelled) in
      same_digits ds es (drop point text) (fraction_text g ++ y) are n.integer_digits stops (fraction_stops g y n.digit) (sym split ∙ m.1)

  pub fraction_lacks : NoFractionAt text point → NoMantissaAt text at
  fraction_lacks lacks c es g y n = grind (arith, front)

module _ (text : List ℕ) (at : ℕ) (negative : Bool) (from : ℕ) (x : SignAt text at negative from) (ds : List ℕ) (end : ℕ)
    (are : AreDigits ds) (split : drop from text ≡ ds ++ drop end text) (stops : starts is_ascii_digit (drop end text) ≡ false) where
  pub no_power : length ds ≡ 0 → NoExponentAt text at
  no_power empty sign es rest p =
      let same = power_digits x.sign sign ds es (drop end text) rest x.known (λ o. ap (starts is_sign) (sym split) ∙ x.none o) are stops
      (drop at text) (x.spelled ∙ ap (λ t. sign_text x.sign ++ t) split) p in
      absurd (omega (arith, ap length same.1, p.some_digit, empty))

module _ (text : List ℕ) (at : ℕ) (m : Mantissa) (end : ℕ) (x : MantissaAt text at m end) where
  abbrev number : Option Exponent → Numeral
  number e = numeral m.negative m.integer.now m.fraction.now e

  grammatical_of : (e : Option Exponent) → IfSome e IsExponent → IsGrammatical (number e)
  grammatical_of e h = search integer

  joined : (e : Option Exponent) (rest : List ℕ) → drop end text ≡ exponent_text e ++ rest → drop at text ≡ spelling (number e) ++ rest
  joined e rest h =
      let front : List ℕ → List ℕ = λ t. minus_text m.negative ++ (m.integer.now ++ (fraction_text m.fraction.now ++ t)) in
      x.0.spelled ∙ ap front h ∙ sym (apart (number e) rest)

  -- the parts with this exponent
  abbrev with_exponent : Option ExponentParts → NumberParts
  with_exponent e = record { negative = m.negative; integer = m.integer; fraction = m.fraction; exponent = e }

  pub plain_between : starts is_exponent_letter (drop end text) ≡ false → PartsAt text at (with_exponent None) end
  plain_between h = (
    number None,
    refl,
    record {
      grammatical = grammatical_of None tt;
      spelled = joined None (drop end text) refl;
      within = x.1;
      ends = record { digit = x.0.digit; point = λ f e. x.0.point f; letter = λ e. h };
    },
  )

  pub scientific_between : (parts : ExponentParts) (last : ℕ) → starts is_exponent_letter (drop end text) ≡ true
      → ExponentAt text (end + 1) parts last → PartsAt text at (with_exponent (Some parts)) last
  scientific_between parts last h e = let s = shown_first is_exponent_letter text end h in
      let exponent : Exponent = record { letter = get_or text end 0; sign = e.sign; digits = parts.digits.now } in
      let power : drop (end + 1) text ≡ (sign_text e.sign ++ parts.digits.now) ++ drop last text = search append_assoc in (
        number (Some exponent),
        ap (λ o. number (Some (record { letter = 101; sign = o; digits = parts.digits.now }))) e.minus,
        record {
          grammatical = search e.power.known;
          spelled = joined (Some exponent) (drop last text) (s.2 ∙ ap (λ t. get_or text end 0 ∷ t) power);
          within = e.within;
          ends = record { digit = e.power.digit; point = λ f o. absurd (cc); letter = λ o. absurd (cc) };
        },
      )

  -- a number that stands there goes on with its exponent
  module _ (n : Numeral) (last : ℕ) (y : NumeralAt text at n last) where
    after_mantissa : drop end text ≡ exponent_text n.exponent ++ drop last text
    after_mantissa = (same_mantissa m.negative n.negative m.integer.now n.integer m.fraction.now n.fraction (drop at text) (drop end text)
        (exponent_text n.exponent ++ drop last text) x.0 (mantissa_of n (drop at text) (drop last text) y.grammatical y.spelled y.ends)).3

    pub exponent_lacks : starts is_exponent_letter (drop end text) ≡ true → NoExponentAt text (end + 1) → ⊥
    exponent_lacks h lacks =
        let s = shown_first is_exponent_letter text end h in
        let l = lettered n.exponent (get_or text end 0) (drop (end + 1) text)
        (drop last text) y.grammatical.well_formed.exponent y.ends.digit y.ends.letter s.1 (sym s.2 ∙ after_mantissa) in
        lacks l.0.sign l.0.digits (drop last text) l.3
