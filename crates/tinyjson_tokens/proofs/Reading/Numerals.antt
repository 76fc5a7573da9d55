-- Numbers that a text in memory shows at once.
use Rattle.std.proofs.Common.{◌≡◌, ◌==◌, ℕ, ◌+◌, ◌-◌, ◌<◌, ◌≤◌, Bool, true, false, List, [], ◌∷◌, ◌++◌, length, take, drop, get_or, Option}
use Rattle.std.proofs.Common.{Some, None, Ok, IfSome, refl, sym, ap, ◌∙◌, subst, arith, append_assoc, length-append, ⊎_elim}
use Rattle.std.specs.Prelude.{slice_get, encode_utf8}
use Rattle.std.specs.Char.{is_ascii_digit, len_utf8}
use Rattle.std.specs.List.{AllByRecursion}
use Rattle.std.specs.Str.{IsUtf8, IsCharBoundary, chars}
use Rattle.std.proofs.lemmas.Bool.{cases_lt}
use Rattle.std.proofs.lemmas.Bool.Decides.{nat_tests}
use Rattle.std.proofs.lemmas.List.{take_at, length-drop, get_or-drop, get_or_append_left}
use Rattle.std.proofs.lemmas.Str.{IsUtf8-had, byte_from_char, chars-IsAscii, IsCharBoundary-after_ascii, length-encode, len_utf8_bounds}
use Rattle.tinyjson_number.proofs.Callers.{parts_read, spelling_ascii, spelling_room, value_canonical}
use Rattle.tinyjson_number.specs.Normal.{IsNormal, IsReady}
use Rattle.tinyjson_number.specs.Number.{Canonical}
use Rattle.tinyjson_number.specs.Reading.{numeral_of, plain, plain_exponent}
use Rattle.tinyjson_number.specs.declared.parse.NumberParts.{NumberParts}
use Rattle.tinyjson_number.specs.Numeral.{numeral, Numeral, Exponent, AreDigits, IsExponent, IsNumeral, power_width, value, in_range, has_leading_zero}
use Rattle.tinyjson_number.specs.Numeral.{is_exponent_letter, is_sign, minus_text, sign_text, fraction_text, exponent_text, spelling}
use Rattle.tinyjson_grammar.specs.Position.{advance, origin}
use Rattle.tinyjson_grammar.specs.Machine.{Frame, Next, next, stop, awaited, digits, integer, fraction, exponent, complete}
use Rattle.tinyjson_tokens.specs.NumberSteps.{all_digits, Part}
use Rattle.tinyjson_number.specs.Scan.{EndsNumber, IsGrammatical, NumeralAt}
use Rattle.tinyjson_tokens.specs.Numerals.{EndsBefore, IsFound, IsRead, TakesNumeral}
use Rattle.tinyjson_tokens.specs.Slice.{before, chars_after, NextChar}
use Rattle.tinyjson_tokens.specs.Source.{Sight}
use Rattle.tinyjson_tokens.specs.Steps.{Comes, IsNext, IsTaken, Leads, onward}
use Rattle.tinyjson_tokens.proofs.Reading.Number.{begun, begun_next, begun_digit, begun_integer, pointed, pointed_next, pointed_digit}
use Rattle.tinyjson_tokens.proofs.Reading.Number.{powered, powered_next, powered_digit, powered_integer, minus_begins, point_read}
use Rattle.tinyjson_tokens.proofs.Reading.Number.{letter_read, sign_read, no_point, no_letter, digits_come, Leads_rest}
use Rattle.tinyjson_tokens.proofs.Reading.NumberParts.{Leads_number}
use Rattle.tinyjson_grammar.specs.Tree.{number}
use Rattle.tinyjson_tokens.specs.declared.text.TextBytes.{TextBytes}
use Rattle.tinyjson_tokens.proofs.Letters.{text_sight}
use Rattle.tinyjson_tokens.proofs.Slices.{between, next_of, step_gives, step_moves}
use Rattle.tinyjson_grammar.proofs.Callers.{letter_no_digit, letter_no_point}
use Rattle.tinyjson_tokens.proofs.Reading.Steps.{Comes_trans, Same_refl}

-- ---- a number between two places

all_pass : (ds : List ℕ) → AreDigits ds → AllByRecursion (λ c. is_ascii_digit c ≡ true) ds
all_pass [] a = tt
all_pass (d ∷ ds) a = (a.0, all_pass ds a.1)

high_ends : (n : Numeral) (c : ℕ) → 128 ≤ c → EndsBefore n c
high_ends n c h =
    let digit : is_ascii_digit c ≡ false = grind (arith, nat_tests) in
    let point : (c == 46) ≡ false = grind (arith, nat_tests) in
    let letter : is_exponent_letter c ≡ false = grind (arith, nat_tests) in
    record { digit = digit; point = λ e i. point; letter = λ e. letter }

ends_first : (n : Numeral) (rest : List ℕ) (c : ℕ) → 0 < length rest → get_or rest 0 0 ≡ c → EndsNumber n rest → EndsBefore n c
ends_first n [] c some e h = absurd (omega arith)
ends_first n (x ∷ xs) c some e h = subst (EndsBefore n) e (record { digit = h.digit; point = h.point; letter = h.letter })

module _ (text : List ℕ) (at : ℕ) (first : at ≤ length text) (n : Numeral) (end : ℕ) (x : NumeralAt text at n end) where
  numeral_count : end ≡ at + length (spelling n)
  numeral_count = omega (
    arith,
    ap length x.spelled,
    length-append (spelling n) (drop end text),
    length-drop at text,
    length-drop end text,
    x.within,
    first,
  )

  pub numeral_some : at < end
  numeral_some = omega (arith, numeral_count, spelling_room n, x.grammatical.well_formed.some_digit)

module _ (text : List ℕ) (utf8 : IsUtf8 text) (at : ℕ) (first : IsCharBoundary text at) (n : Numeral) (end : ℕ)
    (x : NumeralAt text at n end) where
  abbrev long : ℕ
  long = length (spelling n)

  count : end ≡ at + long
  count = numeral_count text at first.0 n end x

  some : at < end
  some = numeral_some text at first.0 n end x

  numeral_bytes : take (end - at) (drop at text) ≡ spelling n
  numeral_bytes = ap (take (end - at)) x.spelled ∙ take_at (spelling n) (drop end text) (end - at) (omega (arith, count))

  pub numeral_between : between text at end ≡ spelling n
  numeral_between = ap chars numeral_bytes ∙ chars-IsAscii (spelling n) (spelling_ascii n x.grammatical.well_formed)

  last_byte : get_or text (at + (long - 1)) 0 < 128
  last_byte =
      let positive : 0 < long = omega (arith, some, count) in
      let same : get_or text (at + (long - 1)) 0 ≡ get_or (spelling n) (long - 1) 0 =
      sym (get_or-drop at text (long - 1) 0) ∙ ap (λ bs. get_or bs (long - 1) 0) x.spelled
      ∙ get_or_append_left (spelling n) (drop end text) 0 (long - 1) (omega (arith, some)) in
      subst (λ b. b < 128) (sym same) (spelling_ascii n x.grammatical.well_formed (long - 1))

  pub numeral_boundary : IsCharBoundary text end
  numeral_boundary =
      let positive : 0 < long = omega (arith, some, count) in
      subst (IsCharBoundary text) (omega (arith, count, positive)) (IsCharBoundary-after_ascii text (at + (long - 1)) utf8
      (omega (arith, count, positive, x.within)) last_byte)

  numeral_ends : (o : Option ℕ) → NextChar text end o → IfSome o (EndsBefore n)
  numeral_ends None h = tt
  numeral_ends (Some c) k = ⊎_elim (λ l.
      let some : 0 < length (drop end text) = omega (
        arith,
        ap length k,
        length-append (encode_utf8 c) (drop (end + len_utf8 c) text),
        length-encode c,
        (len_utf8_bounds c).0,
      ) in
      let byte : get_or (drop end text) 0 0 ≡ c = byte_from_char (drop end text) (drop (end + len_utf8 c) text) c k l in
      ends_first n (drop end text) c some byte x.ends) (λ h. high_ends n c h) (cases_lt c 128)

  numeral_follows : (o : Option ℕ) × (slice_get (chars_after text end) 0 ≡ o) × IfSome o (EndsBefore n)
  numeral_follows = let o = slice_get (chars_after text end) 0 in (o, refl, numeral_ends o (next_of text utf8 end numeral_boundary))

  numeral_gives : (zs : List ℕ) → zs ≡ chars_after text at → (more : List ℕ) × (zs ≡ spelling n ++ more) × (more ≡ chars_after text end)
  numeral_gives = step_gives text utf8 at end (omega (arith, some)) first numeral_boundary (spelling n) numeral_between

  numeral_moves : advance origin (before text end) ≡ advance (advance origin (before text at)) (spelling n)
  numeral_moves = step_moves text utf8 at end (omega (arith, some)) first numeral_boundary (spelling n) numeral_between

-- the number at the place of a text is taken
pub numeral_taken : (p q : TextBytes) (n : Numeral) → NumeralAt p.text.now p.at n q.at → q.text.now ≡ p.text.now
    → TakesNumeral text_sight p n q
numeral_taken p q n x same =
    let text = p.text.now in
    let utf8 = IsUtf8-had text p.utf8 in
    let end = q.at in
    let f = numeral_follows text utf8 p.at p.boundary n end x in
    record {
      grammatical = x.grammatical;
      takes = record {
        gives = λ zs g. let y = numeral_gives text utf8 p.at p.boundary n end x zs g in
            (y.0, y.1, y.2 ∙ ap (λ t. chars_after t end) (sym same));
        moves = ap (λ t. advance origin (before t end)) same ∙ numeral_moves text utf8 p.at p.boundary n end x;
      };
      ends = (f.0, ap (λ t. slice_get (chars_after t end) 0) same ∙ f.1, f.2);
    }

-- ---- the machine takes it

module _ (limit : Option ℕ) (fs : List Frame) where
  held : (o : Next) → IsNext o → IsTaken o
  held (next gs p) h = tt
  held (stop k b) h = absurd h

  -- one character, that leads to a state
  one_comes : (n m : Next) (c : ℕ) (rest : List ℕ) → IsNext n → IsNext m → onward limit n c ≡ m → Comes limit n (c ∷ []) m rest
  one_comes n m c rest h k e = (
    h,
    subst IsTaken (sym e) (held m k),
    subst (λ z. Comes limit z [] m rest) (sym e) (Same_refl limit m rest, λ w. w),
  )

  minus_comes : (b : Bool) (rest : List ℕ) → Comes limit (next fs awaited) (minus_text b) (begun fs b []) rest
  minus_comes true rest = one_comes (next fs awaited) (begun fs true []) 45 rest tt tt (minus_begins limit fs 45 refl)
  minus_comes false rest = (Same_refl limit (next fs awaited) rest, λ w. w)

  -- the state after the fraction, or where there is none after the integer part
  abbrev reached : Bool → List ℕ → List ℕ → Next
  reached b ds [] = next fs (digits integer (numeral b ds [] None))
  reached b ds (x ∷ xs) = next fs (digits fraction (numeral b ds (x ∷ xs) None))

  reached_next : (b : Bool) (ds f : List ℕ) → IsNext (reached b ds f)
  reached_next b ds [] = tt
  reached_next b ds (x ∷ xs) = tt

  integer_comes : (b : Bool) (ds rest : List ℕ) → AreDigits ds → 0 < length ds
      → Comes limit (next fs awaited) (minus_text b ++ ds) (next fs (digits integer (numeral b ds [] None))) rest
  integer_comes b ds rest a l =
      Comes_trans limit (next fs awaited) (begun fs b []) (next fs (digits integer (numeral b ds [] None))) (minus_text b) ds rest
      (minus_comes b (ds ++ rest)) (subst (λ z. Comes limit (begun fs b []) ds z rest) (begun_integer fs b ds l)
      (digits_come limit (begun fs b) (begun_next fs b) (begun_digit limit fs b) [] ds rest (all_pass ds a)))

  fraction_comes : (b : Bool) (ds f rest : List ℕ) → has_leading_zero ds ≡ false → AreDigits f
      → Comes limit (next fs (digits integer (numeral b ds [] None))) (fraction_text f) (reached b ds f) rest
  fraction_comes b ds [] rest z a = (Same_refl limit (next fs (digits integer (numeral b ds [] None))) rest, λ w. w)
  fraction_comes b ds (x ∷ xs) rest z a =
      Comes_trans limit (next fs (digits integer (numeral b ds [] None))) (pointed fs b ds []) (reached b ds (x ∷ xs)) (46 ∷ [])
      (x ∷ xs) rest (one_comes (next fs (digits integer (numeral b ds [] None))) (pointed fs b ds []) 46 (x ∷ xs ++ rest) tt tt
      (point_read limit fs b ds 46 z refl))
      (digits_come limit (pointed fs b ds) (pointed_next fs b ds) (pointed_digit limit fs b ds) [] (x ∷ xs) rest (all_pass (x ∷ xs) a))

  -- the state after the exponent, or where there is none after the fraction
  abbrev arrived : Bool → List ℕ → List ℕ → Option Exponent → Next
  arrived b ds f None = reached b ds f
  arrived b ds f (Some e) = next fs (digits exponent (numeral b ds f (Some e)))

  letter_comes : (b : Bool) (ds f : List ℕ) (l : ℕ) → has_leading_zero ds ≡ false → is_exponent_letter l ≡ true
      → onward limit (reached b ds f) l ≡ powered fs b ds f l None []
  letter_comes b ds [] l z h = no_point limit fs b ds (Some l) z (letter_no_digit l h) (letter_no_point l h)
      ∙ letter_read limit fs b ds [] l h
  letter_comes b ds (x ∷ xs) l z h = letter_read limit fs b ds (x ∷ xs) l h

  sign_comes : (b : Bool) (ds f : List ℕ) (l : ℕ) (s : Option ℕ) (rest : List ℕ) → IfSome s (λ c. is_sign c ≡ true)
      → Comes limit (powered fs b ds f l None []) (sign_text s) (powered fs b ds f l s []) rest
  sign_comes b ds f l None rest h = (Same_refl limit (powered fs b ds f l None []) rest, λ w. w)
  sign_comes b ds f l (Some c) rest h = one_comes (powered fs b ds f l None []) (powered fs b ds f l (Some c) []) c rest tt tt
      (sign_read limit fs b ds f l c h)

  exponent_comes : (b : Bool) (ds f : List ℕ) (e : Option Exponent) (rest : List ℕ) → has_leading_zero ds ≡ false → IfSome e IsExponent
      → Comes limit (reached b ds f) (exponent_text e) (arrived b ds f e) rest
  exponent_comes b ds f None rest z h = (Same_refl limit (reached b ds f) rest, λ w. w)
  exponent_comes b ds f (Some e) rest z h =
      let l = e.letter in
      let s = e.sign in
      Comes_trans limit (reached b ds f) (powered fs b ds f l None []) (arrived b ds f (Some e)) (l ∷ []) (sign_text s ++ e.digits) rest
      (one_comes (reached b ds f) (powered fs b ds f l None []) l ((sign_text s ++ e.digits) ++ rest) (reached_next b ds f) tt
      (letter_comes b ds f l z h.letter))
      (Comes_trans limit (powered fs b ds f l None []) (powered fs b ds f l s []) (arrived b ds f (Some e)) (sign_text s) e.digits rest
      (sign_comes b ds f l s (e.digits ++ rest) h.sign)
      (subst (λ z. Comes limit (powered fs b ds f l s []) e.digits z rest) (powered_integer fs b ds f l s e.digits h.some_digit)
      (digits_come limit (powered fs b ds f l s) (powered_next fs b ds f l s) (powered_digit limit fs b ds f l s) [] e.digits rest
      (all_pass e.digits h.digits))))

  numeral_comes : (n : Numeral) (rest : List ℕ) → IsGrammatical n → Comes limit (next fs awaited) (spelling n)
      (arrived n.negative n.integer n.fraction n.exponent) rest
  numeral_comes n rest x =
      let b = n.negative in
      let ds = n.integer in
      let f = n.fraction in
      let e = n.exponent in
      let to = arrived b ds f e in
      let parts : spelling n ≡ (minus_text b ++ ds) ++ (fraction_text f ++ exponent_text e) =
      sym (append_assoc (minus_text b) ds (fraction_text f ++ exponent_text e)) in
      subst (λ t. Comes limit (next fs awaited) t to rest) (sym parts)
      (Comes_trans limit (next fs awaited) (next fs (digits integer (numeral b ds [] None))) to (minus_text b ++ ds)
      (fraction_text f ++ exponent_text e) rest
      (integer_comes b ds ((fraction_text f ++ exponent_text e) ++ rest) x.well_formed.integer x.well_formed.some_digit)
      (Comes_trans limit (next fs (digits integer (numeral b ds [] None))) (reached b ds f) to (fraction_text f) (exponent_text e) rest
      (fraction_comes b ds f (exponent_text e ++ rest) x.no_leading_zero x.well_formed.fraction)
      (exponent_comes b ds f e rest x.no_leading_zero x.well_formed.exponent)))

module _ {S : Type 0} (sight : Sight S) (p q : S) (n : Numeral) (x : TakesNumeral sight p n q) where
  numeral_leads : (limit : Option ℕ) (fs : List Frame) → Leads sight limit p (next fs awaited) q (next fs (digits exponent n))
  numeral_leads limit fs =
      let l : Leads sight limit p (next fs awaited) q (arrived limit fs n.negative n.integer n.fraction n.exponent) = record {
        taken = spelling n;
        gives = λ zs g. let y = x.takes.gives zs g in (y.0, y.1, y.2, numeral_comes limit fs n y.0 x.grammatical);
        moves = x.takes.moves;
      } in
      after_fraction limit fs n.exponent refl l
    where
      no_digit : (o : Option ℕ) → IfSome o (EndsBefore n) → IfSome o (λ c. is_ascii_digit c ≡ false)
      no_digit None h = tt
      no_digit (Some c) h = h.digit

      no_dot : (o : Option ℕ) → n.fraction ≡ [] → n.exponent ≡ None → IfSome o (EndsBefore n) → IfSome o (λ c. (c == 46) ≡ false)
      no_dot None i j h = tt
      no_dot (Some c) i j h = h.point i j

      no_exponent_letter : (o : Option ℕ) → n.exponent ≡ None → IfSome o (EndsBefore n) → IfSome o (λ c. is_exponent_letter c ≡ false)
      no_exponent_letter None j h = tt
      no_exponent_letter (Some c) j h = h.letter j

      after_point : (limit : Option ℕ) (fs : List Frame) (f : List ℕ) → n.fraction ≡ f → n.exponent ≡ None
          → Leads sight limit p (next fs awaited) q (reached limit fs n.negative n.integer f)
          → Leads sight limit p (next fs awaited) q (next fs (digits fraction (numeral n.negative n.integer f None)))
      after_point limit fs [] i j l = let e = x.ends in
          Leads_rest sight limit p q (next fs (digits fraction (numeral n.negative n.integer [] None))) e.0 l e.1 tt
          (no_point limit fs n.negative n.integer e.0 x.grammatical.no_leading_zero (no_digit e.0 e.2) (no_dot e.0 i j e.2))
      after_point limit fs (y ∷ ys) i j l = l

      after_fraction : (limit : Option ℕ) (fs : List Frame) (o : Option Exponent) → n.exponent ≡ o
          → Leads sight limit p (next fs awaited) q (arrived limit fs n.negative n.integer n.fraction o)
          → Leads sight limit p (next fs awaited) q (next fs (digits exponent (numeral n.negative n.integer n.fraction o)))
      after_fraction limit fs None j l = let e = x.ends in
          Leads_rest sight limit p q (next fs (digits exponent (numeral n.negative n.integer n.fraction None))) e.0
          (after_point limit fs n.fraction refl j l) e.1 tt
          (no_letter limit fs (numeral n.negative n.integer n.fraction None) e.0 (no_digit e.0 e.2) (no_exponent_letter e.0 j e.2))
      after_fraction limit fs (Some y) j l = l

  no_digit_next : (o : Option ℕ) → IfSome o (EndsBefore n) → IfSome o (λ c. is_ascii_digit c ≡ false)
  no_digit_next None h = tt
  no_digit_next (Some c) h = h.digit

  part_integer : Part sight (λ (m : Numeral). tt {0}) (λ m. m) exponent p (λ fs. next fs awaited) tt (all_digits n) q
  part_integer = record {
    part = n;
    has = record { well_formed = x.grammatical.well_formed; no_leading_zero = x.grammatical.no_leading_zero; gathered = refl };
    answers = refl;
    ends = (x.ends.0, x.ends.1, no_digit_next x.ends.0 x.ends.2);
    leads = numeral_leads;
  }

  -- the whole number was read
  pub Leads_numeral : (limit : Option ℕ) (fs : List Frame) (y : Canonical) → (y.decimal ≡ value n) × (in_range (value n) ≡ true)
      → Leads sight limit p (next fs awaited) q (complete true fs (number y.decimal) true)
  unfolding part_integer
  Leads_numeral limit fs y r = Leads_number sight limit fs p q (all_digits n) part_integer y r

-- ---- a number, or its text

no_plain : (e : Option Exponent) → plain_exponent e ≡ None → e ≡ None
no_plain None h = refl
no_plain (Some x) h = absurd (cc)

plain_same : (n : Numeral) → n.exponent ≡ None → plain n ≡ n
plain_same n h = λ i. record {
  negative = n.negative;
  integer = n.integer;
  fraction = n.fraction;
  exponent = (ap plain_exponent h ∙ sym h) i;
}

-- what was found of the parts was found of the number
pub found_ready : (n : Numeral) (p : NumberParts) → numeral_of p ≡ plain n → (o : Option Canonical) (lent : List ℕ) → IsReady (numeral_of p) o
    → lent ≡ spelling n → IsFound n o lent
found_ready n p same (Some x) lent h is = parts_read n p same (Ok x) h
found_ready n p same None lent h is =
    let none : n.exponent ≡ None = no_plain n.exponent (sym (ap (λ (m : Numeral). m.exponent) same) ∙ h.no_exponent) in
    (subst IsNormal (same ∙ plain_same n none) h, is)

-- the decimal that reading it gives
pub decimal_read : (n : Numeral) → IsNumeral n → (o : Option Canonical) (lent : List ℕ) → IsFound n o lent
    → (y : Canonical) × IsRead o lent y × ((y.decimal ≡ value n) × (in_range (value n) ≡ true))
decimal_read n is (Some x) lent h = (x, refl, h)
decimal_read n is None lent h =
    let y : Canonical = record { decimal = value n; canonical = value_canonical power_width n is h.0.fits } in
    (y, (h.1 ∙ sym h.0.text, subst (λ t. length t ≤ 24) (sym h.1) h.0.short), (refl, h.0.fits))
