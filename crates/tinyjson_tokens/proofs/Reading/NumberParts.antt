-- The parts of a number, as the machine reads them.
use Rattle.std.proofs.Common.{◌≡◌, ◌==◌, ℕ, ◌+◌, ◌-◌, ◌≤◌, Bool, true, false, List, [], ◌++◌, length, take, drop, Option, Some, None}
use Rattle.std.proofs.Common.{IfSome, Result, Ok, Err, refl, sym, ap, ◌∙◌, subst, arith, append-nil, append_assoc, length-append}
use Rattle.std.specs.Prelude.{if◌then◌else◌, option_map}
use Rattle.std.specs.Char.{is_ascii_digit}
use Rattle.std.proofs.lemmas.List.{take_at, drop_at, take_all, length-drop}
use Rattle.tinyjson_number.specs.Numeral.{numeral, Numeral, Exponent, value, in_range, has_leading_zero, is_exponent_letter, is_sign}
use Rattle.tinyjson_number.specs.Numeral.{sign_text}
use Rattle.tinyjson_number.specs.Number.{Canonical}
use Rattle.tinyjson_number.specs.Reading.{exponent_of, numeral_of, plain, plain_sign, plain_exponent}
use Rattle.tinyjson_number.specs.declared.parse.ExponentParts.{ExponentParts}
use Rattle.tinyjson_number.specs.declared.parse.NumberParts.{NumberParts}
use Rattle.tinyjson_tokens.specs.Source.{Sight, Still, Takes}
use Rattle.tinyjson_grammar.specs.Machine.{Frame, next, stop, awaited, digits, integer, fraction, exponent, complete}
use Rattle.tinyjson_tokens.specs.NumberSteps.{BeginsNumber, is_minus, is_below_zero, exponent_digits, all_digits, marks_of, Gathered}
use Rattle.tinyjson_tokens.specs.NumberSteps.{Accepted, Declined, Accepts, Signs, Digits, Part, ReadsPart}
use Rattle.tinyjson_tokens.specs.Steps.{Ends, Leads, Refuses}
use Rattle.tinyjson_grammar.specs.declared.error.JsonParseErrorKind.{JsonParseErrorKind}
use Rattle.tinyjson_tokens.specs.declared.number.Marks.{Marks}
use Rattle.tinyjson_grammar.specs.declared.error.JsonParseErrorKind.TheVariants.{EmptyInteger, LeadingZero, EmptyFraction, EmptyExponent}
use Rattle.tinyjson_grammar.specs.declared.error.JsonParseErrorKind.TheVariants.{NumberOutOfRange}
use Rattle.tinyjson_grammar.specs.Tree.{number}
use Rattle.tinyjson_tokens.proofs.Reading.Steps.{Leads_nil, Leads_to, Leads_trans, Leads_peek, Leads_one, Refuses_as}
use Rattle.tinyjson_tokens.proofs.Reading.Number.{is_one, are_digits, gathered_integer, gathered_fraction, gathered_exponent, begun}
use Rattle.tinyjson_tokens.proofs.Reading.Number.{begun_next, begun_digit, begun_integer, pointed, pointed_next, pointed_digit}
use Rattle.tinyjson_tokens.proofs.Reading.Number.{pointed_integer, powered, powered_next, powered_digit, powered_integer, minus_begins}
use Rattle.tinyjson_tokens.proofs.Reading.Number.{point_read, letter_read, sign_read, Alike, no_integer, no_fraction, no_exponent}
use Rattle.tinyjson_tokens.proofs.Reading.Number.{zero_leads, no_point, no_letter, number_ends, range_ends, ends_declined, digit_comes}
use Rattle.tinyjson_tokens.proofs.Reading.Number.{Leads_rest, Leads_digits, Refuses_digits}

-- an exponent as it is handed on
abbrev pub written : List ℕ → Option Bool → Option Exponent
written t w = option_map (λ b. record { letter = 101; sign = if b then Some 45 else None; digits = t }) w

plain_minus : (s : Option ℕ) → (if is_minus s then Some 45 else None) ≡ plain_sign s
plain_minus None = refl
plain_minus (Some c) = refl

module _ {S : Type 0} (sight : Sight S) (p q : S) where
  -- ---- the integer part

  module _ (r : S) (v : Bool) (old new : List ℕ) (b : BeginsNumber sight p) (a : Accepts sight (λ c. c == 45) p v q) where
    minus_leads : (limit : Option ℕ) (fs : List Frame) → Leads sight limit p (next fs awaited) q (begun fs v [])
    minus_leads limit fs = go v a
      where
        go : (v : Bool) → Accepts sight (λ c. c == 45) p v q → Leads sight limit p (next fs awaited) q (begun fs v [])
        go true a = Leads_one sight limit p p q a.c (Leads_nil sight limit p (next fs awaited)) a.takes tt
            (minus_begins limit fs a.c (is_one 45 a.c a.one)) tt
        go false d = Leads_peek sight limit p p q (Leads_nil sight limit p (next fs awaited)) d.takes

    pub Refuses_integer : (k : JsonParseErrorKind) → Digits sight EmptyInteger q old (Err k) new r → (limit : Option ℕ) (fs : List Frame)
        → Refuses sight limit p (next fs awaited) k r
    Refuses_integer k g limit fs = Refuses_digits sight limit (begun fs v) (begun_next fs v) (begun_digit limit fs v) p q r
        (minus_leads limit fs) EmptyInteger old new k tt g (go v a)
      where
        go : (v : Bool) → Accepts sight (λ c. c == 45) p v q → (o : Option ℕ) → sight.shows r o → IfSome o (λ c. is_ascii_digit c ≡ false)
            → Still sight q r → Alike limit (begun fs v []) (stop EmptyInteger true) o
        go true a o s h t = no_integer limit fs o h
        go false d o s h t = absurd (digit_comes sight p q r o b d s h t)

    module _ (g : Digits sight EmptyInteger q old (Ok tt) new r) where
      integer_leads : (limit : Option ℕ) (fs : List Frame) → Leads sight limit p (next fs awaited) r
          (next fs (digits integer (numeral v g.ds [] None)))
      integer_leads limit fs = Leads_to sight limit p r (Leads_digits sight limit (begun fs v) (begun_next fs v)
          (begun_digit limit fs v) p q r (minus_leads limit fs) g.ds g.digits g.takes) (begun_integer fs v g.ds g.result.1)

      module _ (first : old ≡ []) where
        all : new ≡ g.ds
        all = g.result.0 ∙ ap (λ x. x ++ g.ds) first

        pub Refuses_zero : has_leading_zero new ≡ true → (limit : Option ℕ) (fs : List Frame)
            → Refuses sight limit p (next fs awaited) LeadingZero r
        Refuses_zero z limit fs = let x = g.result.2 in
            Refuses_as sight limit p r LeadingZero (Leads_rest sight limit p r (stop LeadingZero true) x.0 (integer_leads limit fs) x.1 tt
            (zero_leads limit fs v g.ds x.0 (ap has_leading_zero (sym all) ∙ z) x.2))

        pub Part_integer : has_leading_zero new ≡ false → Part sight (λ n. n.negative)
            (λ (x : Bool × List ℕ). numeral x.0 x.1 [] None) integer p (λ fs. next fs awaited) v new r
        Part_integer z = record {
          part = (v, g.ds);
          has = gathered_integer v g.ds new (are_digits g.ds g.digits) g.result.1 (ap has_leading_zero (sym all) ∙ z) all;
          answers = refl;
          ends = g.result.2;
          leads = integer_leads;
        }

  -- ---- the fraction

  module _ (b : Bool) (ds old : List ℕ) (s : Gathered (numeral b ds [] None) old) where
    pub Part_no_fraction : Ends sight p → Declined sight (λ c. c == 46) p q → Part sight (λ _. tt {0}) (λ f. numeral b ds f None) fraction p
        (λ fs. next fs (digits integer (numeral b ds [] None))) tt old q
    Part_no_fraction e d = let x = ends_declined sight (λ c. c == 46) p q e d in record {
      part = [];
      has = s;
      answers = refl;
      ends = (x.0, x.1, x.2);
      leads = λ limit fs. Leads_rest sight limit p q (next fs (digits fraction (numeral b ds [] None))) x.0
          (Leads_peek sight limit p p q (Leads_nil sight limit p (next fs (digits integer (numeral b ds [] None)))) d.takes) x.1 tt
          (no_point limit fs b ds x.0 s.no_leading_zero x.2 x.3);
    }

    module _ (r : S) (new : List ℕ) (a : Accepted sight (λ c. c == 46) p q) where
      point_leads : (limit : Option ℕ) (fs : List Frame) → Leads sight limit p (next fs (digits integer (numeral b ds [] None))) q
          (pointed fs b ds [])
      point_leads limit fs = Leads_one sight limit p p q a.c (Leads_nil sight limit p (next fs (digits integer (numeral b ds [] None))))
          a.takes tt (point_read limit fs b ds a.c s.no_leading_zero (is_one 46 a.c a.one)) tt

      pub Reads_fraction : (v : Result (Unit {0}) JsonParseErrorKind) → Digits sight EmptyFraction q old v new r
          → ReadsPart sight (λ _. tt {0}) (λ f. numeral b ds f None) fraction p
          (λ fs. next fs (digits integer (numeral b ds [] None))) v new r
      Reads_fraction (Ok u) g = record {
        part = g.ds;
        has = gathered_fraction b ds g.ds old new s (are_digits g.ds g.digits) g.result.0;
        answers = refl;
        ends = g.result.2;
        leads = λ limit fs. Leads_to sight limit p r (Leads_digits sight limit (pointed fs b ds) (pointed_next fs b ds)
            (pointed_digit limit fs b ds) p q r (point_leads limit fs) g.ds g.digits g.takes) (pointed_integer fs b ds g.ds g.result.1);
      }
      Reads_fraction (Err k) g = λ limit fs.
          Refuses_digits sight limit (pointed fs b ds) (pointed_next fs b ds) (pointed_digit limit fs b ds) p q r
          (point_leads limit fs) EmptyFraction old new k tt g (λ o t h i. no_fraction limit fs b ds o h)

  -- ---- the exponent

  module _ (b : Bool) (ds f old : List ℕ) (s : Gathered (numeral b ds f None) old) where
    pub Part_no_exponent : Ends sight p → Declined sight is_exponent_letter p q
        → Part sight (λ n. is_below_zero n.exponent) (numeral b ds f) exponent p
        (λ fs. next fs (digits fraction (numeral b ds f None))) None old q
    Part_no_exponent e d = let x = ends_declined sight is_exponent_letter p q e d in record {
      part = None;
      has = s;
      answers = refl;
      ends = (x.0, x.1, x.2);
      leads = λ limit fs. Leads_rest sight limit p q (next fs (digits exponent (numeral b ds f None))) x.0
          (Leads_peek sight limit p p q (Leads_nil sight limit p (next fs (digits fraction (numeral b ds f None)))) d.takes) x.1 tt
          (no_letter limit fs (numeral b ds f None) x.0 x.2 x.3);
    }

    -- after the letter, with the sign, if there is one
    module _ (r t : S) (new : List ℕ) (a : Accepted sight is_exponent_letter p q) (w : Bool) (x : Signs sight q w r) where
      letter_leads : (limit : Option ℕ) (fs : List Frame) → Leads sight limit p (next fs (digits fraction (numeral b ds f None))) q
          (powered fs b ds f a.c None [])
      letter_leads limit fs = Leads_one sight limit p p q a.c (Leads_nil sight limit p (next fs (digits fraction (numeral b ds f None))))
          a.takes tt (letter_read limit fs b ds f a.c a.one) tt

      sign_leads : (limit : Option ℕ) (fs : List Frame) → Leads sight limit p (next fs (digits fraction (numeral b ds f None))) r
          (powered fs b ds f a.c x.sign [])
      sign_leads limit fs = go x.sign x.known x.takes
        where
          go : (x : Option ℕ) → IfSome x (λ c. is_sign c ≡ true) → Takes sight q (sign_text x) r
              → Leads sight limit p (next fs (digits fraction (numeral b ds f None))) r (powered fs b ds f a.c x [])
          go None i y = Leads_peek sight limit p q r (letter_leads limit fs) y
          go (Some c) i y = Leads_one sight limit p q r c (letter_leads limit fs) y tt (sign_read limit fs b ds f a.c c i) tt

      unsigned : {o : Option ℕ} → sight.shows t o → Still sight r t → x.sign ≡ None → IfSome o (λ c. is_sign c ≡ false)
      unsigned {o} h i e = let y = x.none e in subst (λ z. IfSome z (λ c. is_sign c ≡ false)) (sight.one t y.0 o (i y.0 y.1) h) y.2

      pub Part_exponent : Digits sight EmptyExponent r old (Ok tt) new t
          → Part sight (λ n. is_below_zero n.exponent) (numeral b ds f) exponent p (λ fs. next fs (digits fraction (numeral b ds f None)))
          (Some w) new t
      Part_exponent g = record {
        part = Some (record { letter = a.c; sign = x.sign; digits = g.ds });
        has = gathered_exponent b ds f a.c x.sign g.ds old new s a.one x.known (are_digits g.ds g.digits) g.result.1 g.result.0;
        answers = ap Some x.minus;
        ends = g.result.2;
        leads = λ limit fs.
            Leads_to sight limit p t (Leads_digits sight limit (powered fs b ds f a.c x.sign) (powered_next fs b ds f a.c x.sign)
            (powered_digit limit fs b ds f a.c x.sign) p r t (sign_leads limit fs) g.ds g.digits g.takes)
            (powered_integer fs b ds f a.c x.sign g.ds g.result.1);
      }

      pub Refuses_exponent : (k : JsonParseErrorKind) → Digits sight EmptyExponent r old (Err k) new t
          → (limit : Option ℕ) (fs : List Frame) → Refuses sight limit p (next fs (digits fraction (numeral b ds f None))) k t
      Refuses_exponent k g limit fs = Refuses_digits sight limit (powered fs b ds f a.c x.sign) (powered_next fs b ds f a.c x.sign)
          (powered_digit limit fs b ds f a.c x.sign) p r t (sign_leads limit fs) EmptyExponent old new k tt g
          (λ o h d i. no_exponent limit fs b ds f a.c x.sign o d (unsigned h i))

-- ---- the whole number

-- the marks that are known before the fraction is read
abbrev pub front_marks : Numeral → Bool × ℕ
front_marks n = (n.negative, length n.integer)

module _ {S : Type 0} (sight : Sight S) (p q r : S) (mid new : List ℕ) where
  -- a part, and the next
  pub Part_fraction : {v : Bool} → Part sight (λ n. n.negative) (λ (x : Bool × List ℕ). numeral x.0 x.1 [] None) integer p
      (λ fs. next fs awaited) v mid q → (k : ℕ) → k ≡ length mid
      → ((b : Bool) (ds : List ℕ) → Gathered (numeral b ds [] None) mid → Ends sight q
      → Part sight (λ _. tt {0}) (λ f. numeral b ds f None) fraction q (λ fs. next fs (digits integer (numeral b ds [] None))) tt new r)
      → Part sight front_marks (λ (x : Bool × List ℕ × List ℕ). numeral x.0 x.1 x.2 None) fraction p (λ fs. next fs awaited) (v, k) new r
  Part_fraction i k w f =
      let x = f i.part.0 i.part.1 i.has i.ends in
      let n : k ≡ length i.part.1 = w ∙ ap length (sym i.has.gathered ∙ append-nil i.part.1) in
      record {
        part = (i.part.0, i.part.1, x.part);
        has = x.has;
        answers = λ x. (i.answers x, n x);
        ends = x.ends;
        leads = λ limit fs. Leads_trans sight limit p q r (i.leads limit fs) (x.leads limit fs);
      }

  pub Part_number : {v : Bool} {m : ℕ} {w : Option Bool} → Part sight front_marks
      (λ (x : Bool × List ℕ × List ℕ). numeral x.0 x.1 x.2 None) fraction p (λ fs. next fs awaited) (v, m) mid q → (k : ℕ) → k ≡ length mid
      → ((b : Bool) (ds f : List ℕ) → Gathered (numeral b ds f None) mid → Ends sight q
      → Part sight (λ n. is_below_zero n.exponent) (numeral b ds f) exponent q
      (λ fs. next fs (digits fraction (numeral b ds f None))) w new r) → Part sight marks_of (λ n. n) exponent p (λ fs. next fs awaited)
      (record { negative = v; integer = m; fraction = k; exponent = w }) new r
  Part_number i k l e =
      let x = e i.part.0 i.part.1 i.part.2 i.has i.ends in
      let n : k ≡ length i.part.1 + length i.part.2 = l ∙ ap length (sym i.has.gathered ∙ ap (λ t. i.part.1 ++ t) (append-nil i.part.2))
      ∙ length-append i.part.1 i.part.2 in
      record {
        part = numeral i.part.0 i.part.1 i.part.2 x.part;
        has = x.has;
        answers = λ y. record { negative = (i.answers y).0; integer = (i.answers y).1; fraction = n y; exponent = x.answers y };
        ends = x.ends;
        leads = λ limit fs. Leads_trans sight limit p q r (i.leads limit fs) (x.leads limit fs);
      }

-- the parts that end at these marks of a text, wherever they lie in memory
abbrev pub parts_of : List ℕ → Marks → Option ExponentParts → NumberParts
parts_of text m e = record {
  negative = m.negative;
  integer = record { ref_ptr = (0, 0); now = take m.integer text };
  fraction = record { ref_ptr = (0, 0); now = take (m.fraction - m.integer) (drop m.integer text) };
  exponent = e;
}

-- those that end at the marks of a numeral are its parts
module _ (n : Numeral) (text : List ℕ) (m : Marks) (has : Gathered n text) (at : m ≡ marks_of n) where
  abbrev i : ℕ
  i = m.integer

  abbrev j : ℕ
  j = m.fraction

  to_integer : i ≡ length n.integer
  to_integer = ap (λ (x : Marks). x.integer) at

  to_fraction : j ≡ length n.integer + length n.fraction
  to_fraction = ap (λ (x : Marks). x.fraction) at

  integer_at : take i text ≡ n.integer
  integer_at = ap (take i) (sym has.gathered) ∙ take_at n.integer (n.fraction ++ exponent_digits n.exponent) i (sym to_integer)

  from_fraction : drop i text ≡ n.fraction ++ exponent_digits n.exponent
  from_fraction = ap (drop i) (sym has.gathered) ∙ drop_at n.integer (n.fraction ++ exponent_digits n.exponent) i (sym to_integer)

  fraction_at : take (j - i) (drop i text) ≡ n.fraction
  fraction_at = ap (take (j - i)) from_fraction ∙ take_at n.fraction (exponent_digits n.exponent) (j - i)
      (omega (arith, to_integer, to_fraction))

  exponent_at : drop j text ≡ exponent_digits n.exponent
  exponent_at =
      let both : all_digits n ≡ (n.integer ++ n.fraction) ++ exponent_digits n.exponent =
      sym (append_assoc n.integer n.fraction (exponent_digits n.exponent)) in
      ap (drop j) (sym has.gathered ∙ both) ∙ drop_at (n.integer ++ n.fraction) (exponent_digits n.exponent) j
      (length-append n.integer n.fraction ∙ sym to_fraction)

  plain_at : (e : Option Exponent) → m.exponent ≡ is_below_zero e → (t : List ℕ) → t ≡ exponent_digits e
      → written t m.exponent ≡ plain_exponent e
  plain_at None h t k = ap (written t) h
  plain_at (Some e) h t k = ap (written t) h
      ∙ ap (λ x. Some (record { letter = 101; sign = if is_minus e.sign then Some 45 else None; digits = x })) k
      ∙ ap (λ x. Some (record { letter = 101; sign = x; digits = e.digits })) (plain_minus e.sign)

  pub marks_within : (i ≤ j) × (j ≤ length text)
  marks_within = (
    omega (arith, to_integer, to_fraction),
    omega (
      arith,
      to_fraction,
      ap length has.gathered,
      length-append n.integer (n.fraction ++ exponent_digits n.exponent),
      length-append n.fraction (exponent_digits n.exponent),
    ),
  )

  pub parts_plain : (e : Option ExponentParts) → exponent_of e ≡ written (take (length text - j) (drop j text)) m.exponent
      → numeral_of (parts_of text m e) ≡ plain n
  parts_plain e h =
      let u = h ∙ plain_at n.exponent (ap (λ (x : Marks). x.exponent) at) (take (length text - j) (drop j text))
      (take_all _ _ (omega (arith, length-drop j text)) ∙ exponent_at) in
      λ k. record { negative = (at k).negative; integer = integer_at k; fraction = fraction_at k; exponent = u k }

-- the number ends here
module _ {S : Type 0} (sight : Sight S) (limit : Option ℕ) (fs : List Frame) (p q : S) {T : Type 0} {answer : Numeral → T} {v : T}
    (text : List ℕ) (n : Part sight answer (λ n. n) exponent p (λ fs. next fs awaited) v text q) where
  pub Leads_number : (x : Canonical) → (x.decimal ≡ value n.part) × (in_range (value n.part) ≡ true)
      → Leads sight limit p (next fs awaited) q (complete true fs (number x.decimal) true)
  Leads_number x r = let e = n.ends in
      Leads_to sight limit p q (Leads_rest sight limit p q (complete true fs (number (value n.part)) true) e.0 (n.leads limit fs) e.1 tt
      (number_ends limit fs n.part e.0 r.1 e.2)) (ap (λ d. complete true fs (number d) true) (sym r.0))

  pub Refuses_range : in_range (value n.part) ≡ false → Refuses sight limit p (next fs awaited) NumberOutOfRange q
  Refuses_range r = let e = n.ends in
      Refuses_as sight limit p q NumberOutOfRange (Leads_rest sight limit p q (stop NumberOutOfRange true) e.0 (n.leads limit fs) e.1 tt
      (range_ends limit fs n.part e.0 r e.2))
