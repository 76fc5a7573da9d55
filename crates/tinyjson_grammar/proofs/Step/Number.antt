-- What comes of a character of a number, and of its end.
use Rattle.std.proofs.Common.{◌≡◌, ℕ, Bool, true, false, List, [], ◌∷◌, ◌++◌, Option, Some, None, refl, ap, sym, ◌∙◌, cond, append_assoc}
use Rattle.std.proofs.Common.{append-nil, arith, subst, inl, inr, IsTrue, ◌||◌, ◌==◌, not}
use Rattle.std.specs.Char.{is_ascii_digit}
use Rattle.std.proofs.lemmas.Bool.{cond_both, eqb-true, not-true, not-false, or_from}
use Rattle.tinyjson_grammar.specs.Machine.{strictly, Frame, digits, Next, complete, step_digits, finish, then_step, unless_ended, run, step}
use Rattle.tinyjson_grammar.specs.Machine.{go_on, accepted, Phase}
use Rattle.tinyjson_grammar.specs.Tree.{Tree, no_members}
use Rattle.tinyjson_grammar.specs.Tree as tree
use Rattle.tinyjson_grammar.specs.Syntax.{Syntax, text}
use Rattle.tinyjson_number.specs.Numeral.{numeral, Numeral, IsNumeral, AreDigits, has_leading_zero, minus_text, spelling, value, in_range}
use Rattle.tinyjson_number.specs.Numeral.{is_sign, is_exponent_letter}
use Rattle.tinyjson_grammar.specs.Prefix.{IsValue}
use Rattle.tinyjson_grammar.specs.declared.error.JsonParseErrorKind.TheVariants.{EmptyInteger, LeadingZero, EmptyFraction, EmptyExponent}
use Rattle.tinyjson_grammar.specs.declared.error.JsonParseErrorKind.TheVariants.{NumberOutOfRange}
use Rattle.tinyjson_grammar.specs.Refusal.{KindSays, BeginsWithNone}
use Rattle.tinyjson_grammar.proofs.Trace.Paths.{Path, outside, key_in, path_text, path_frames, IsPath, members_from}
use Rattle.tinyjson_grammar.proofs.Trace.State.{Part, part_point, part_fraction, part_letter, part_sign, part_exponent, part_text}
use Rattle.tinyjson_grammar.proofs.Trace.State.{part_stage, part_numeral, IsPart, IsIntegerPart, Ranges, in_digits, part_minus, after_read}
use Rattle.tinyjson_grammar.proofs.Trace.State.{part_integer, Spells, flat_within, ends_loosely, exponent_with}
use Rattle.tinyjson_grammar.proofs.Prefix.Viable.{part_ending, part_prompt, error_free_minus, error_free_point}
use Rattle.tinyjson_grammar.proofs.Step.Statement.{Follows, either, key_says, loosely, NoQuoteFrom, Denies}
use Rattle.tinyjson_grammar.proofs.Step.Awaits.{begins_at}
use Rattle.tinyjson_grammar.proofs.Prefix.Unviable.{key_unviable, zero_unviable}
use Rattle.tinyjson_grammar.proofs.Accepts.Text.{no_text}
use Rattle.tinyjson_grammar.proofs.Step.Value.{after_follows}
use Rattle.tinyjson_number.proofs.Callers.{digits_append}

-- ---- no quote follows

quote_ends : (limit : Option ℕ) (p : Path) (n : Numeral) (ys : List ℕ) (t : Tree)
    → go_on (λ gs q. run (loosely limit) gs q ys) (then_step (loosely limit) (finish (loosely limit) (path_frames p) n) 34) (34 ∷ ys) ys
    ≡ accepted t → ⊥
quote_ends limit (outside w) n ys t e = no_text _ _ t e
quote_ends limit _ n ys t e = no_text _ _ t e

pub quote_digits : (limit : Option ℕ) (p : Path) (n : Part) → NoQuoteFrom limit (path_frames p) (digits (part_stage n) (part_numeral n))
unfolding run step
quote_digits limit p part_minus ys t e = no_text _ _ t e
quote_digits limit p (part_integer b d ds) ys t e = quote_ends limit p (numeral b (d ∷ ds) [] None) ys t e
quote_digits limit p (part_fraction b d ds x xs) ys t e = quote_ends limit p (numeral b (d ∷ ds) (x ∷ xs) None) ys t e
quote_digits limit p (part_exponent b d ds f l s x xs) ys t e =
    quote_ends limit p (numeral b (d ∷ ds) f (Some (exponent_with l s (x ∷ xs)))) ys t e
quote_digits limit p _ ys t e = no_text _ _ t e

-- ---- what a number that stops says

-- what cannot follow the part of a number
abbrev pub DeniesPart : Option ℕ → Path → Part → Type 0
DeniesPart limit p n = Denies limit (path_text p ++ part_text n) (path_frames p) (digits (part_stage n) (part_numeral n))

module _ (ranges : Ranges) (limit : Option ℕ) (p : Path) (hp : IsPath limit p) where
  pub minus_says : (rest : List ℕ) → BeginsWithNone is_ascii_digit rest → DeniesPart limit p part_minus
      → KindSays limit EmptyInteger (path_text p ++ 45 ∷ []) rest
  minus_says rest h x = (
    (begins_at limit p hp _ _ refl, h),
    (
      error_free_minus ranges limit p hp,
      (ends_loosely limit p hp _ (part_ending part_minus tt), x.no_quote (quote_digits limit p part_minus)),
    ),
  )

  pub zero_says : (b : Bool) (d : ℕ) (ds : List ℕ) → AreDigits (d ∷ ds) → IsTrue (has_leading_zero (d ∷ ds)) → (rest : List ℕ)
      → BeginsWithNone is_ascii_digit rest →
      DeniesPart limit p (part_integer b d ds) → KindSays limit LeadingZero (path_text p ++ (minus_text b ++ d ∷ ds)) rest
  zero_says b d ds h i rest e x = (
    (b, d ∷ ds, i, h, begins_at limit p hp _ _ refl, e),
    (
      part_prompt ranges limit p hp (part_integer b d ds) h,
      (ends_loosely limit p hp _ (part_ending (part_integer b d ds) h), x.no_quote (quote_digits limit p (part_integer b d ds))),
      x.unviable (λ ys t. zero_unviable ys (strictly limit) (path_frames p) (numeral b (d ∷ ds) [] None) t refl i),
    ),
  )

  pub point_says : (b : Bool) (d : ℕ) (ds : List ℕ) → IsIntegerPart d ds → (rest : List ℕ) → BeginsWithNone is_ascii_digit rest
      → DeniesPart limit p (part_point b d ds) → KindSays limit EmptyFraction (path_text p ++ (minus_text b ++ d ∷ (ds ++ 46 ∷ []))) rest
  point_says b d ds h rest e x = (
    (b, d ∷ ds, (h.0, omega arith, h.1), begins_at limit p hp _ _ refl, e),
    (
      error_free_point ranges limit p hp b d ds h,
      (ends_loosely limit p hp _ (part_ending (part_point b d ds) h), x.no_quote (quote_digits limit p (part_point b d ds))),
    ),
  )

  pub letter_says : (b : Bool) (d : ℕ) (ds f : List ℕ) (l : ℕ) → IsPart (part_letter b d ds f l) → (rest : List ℕ)
      → BeginsWithNone (λ c. is_ascii_digit c || is_sign c) rest →
      DeniesPart limit p (part_letter b d ds f l) → KindSays limit EmptyExponent (path_text p ++ part_text (part_letter b d ds f l)) rest
  letter_says b d ds f l h rest e x = (
    (b, d ∷ ds, f, l, (h.0.0, omega arith, h.0.1), h.1, h.2, inl (begins_at limit p hp _ _ refl, e)),
    (
      part_prompt ranges limit p hp (part_letter b d ds f l) h,
      (ends_loosely limit p hp _ (part_ending (part_letter b d ds f l) h), x.no_quote (quote_digits limit p (part_letter b d ds f l))),
    ),
  )

  pub sign_says : (b : Bool) (d : ℕ) (ds f : List ℕ) (l s : ℕ) → IsPart (part_sign b d ds f l s) → (rest : List ℕ)
      → BeginsWithNone is_ascii_digit rest →
      DeniesPart limit p (part_sign b d ds f l s) → KindSays limit EmptyExponent (path_text p ++ part_text (part_sign b d ds f l s)) rest
  sign_says b d ds f l s h rest e x = (
    (b, d ∷ ds, f, l, (h.0.0, omega arith, h.0.1), h.1, h.2, inr (s, h.3, begins_at limit p hp _ _ refl, e)),
    (
      part_prompt ranges limit p hp (part_sign b d ds f l s) h,
      (ends_loosely limit p hp _ (part_ending (part_sign b d ds f l s) h), x.no_quote (quote_digits limit p (part_sign b d ds f l s))),
    ),
  )

  pub range_says : (n : Part) → IsPart n → IsNumeral (part_numeral n) → has_leading_zero (part_numeral n).integer ≡ false
      → part_text n ≡ spelling (part_numeral n) → in_range (value (part_numeral n)) ≡ false → (rest : List ℕ)
      → BeginsWithNone is_ascii_digit rest → DeniesPart limit p n → KindSays limit NumberOutOfRange (path_text p ++ part_text n) rest
  range_says n h i j t e rest nd x = (
    (part_numeral n, i, j, e, begins_at limit p hp _ _ (ap (λ xs. path_text p ++ xs) t), nd),
    (part_prompt ranges limit p hp n h, (ends_loosely limit p hp _ (part_ending n h), x.no_quote (quote_digits limit p n))),
  )

-- the number may end here
pub record IsDone (n : Part) : Type 0 where
  pub numeral : IsNumeral (part_numeral n)
  pub no_zero : has_leading_zero (part_numeral n).integer ≡ false
  pub whole : part_text n ≡ spelling (part_numeral n)

pub done_value : (n : Part) → IsDone n → IsTrue (in_range (value (part_numeral n))) → IsValue (Syntax.number (part_numeral n))
done_value n h e = record { spelled = h.numeral; strict = (rw h.no_zero refl, e) }

-- it ends before c
pub ends_before : (limit : Option ℕ) (p : Path) → IsPath limit p → (n : Part) → IsDone n → IsTrue (in_range (value (part_numeral n)))
    → (c : ℕ) → is_ascii_digit c ≡ false →
    Follows limit (path_text p ++ (text (Syntax.number (part_numeral n)) ++ [])) (path_frames p) (digits (part_stage n) (part_numeral n)) c
    (then_step (strictly limit) (complete true (path_frames p) (tree.number (value (part_numeral n))) false) c)
ends_before limit (outside w) hp n h e c nd = after_follows limit (outside w) (Syntax.number (part_numeral n)) []
    (hp, done_value n h e, tt, flat_within limit (outside w) (Syntax.number (part_numeral n)) hp refl, tt) _ _
    (λ i. quote_digits limit (outside w) n) c
ends_before limit (key_in p ps w) hp n h e c nd =
    λ more x. key_says limit p ps w hp (Syntax.number (part_numeral n)) (done_value n h e) refl
    (flat_within limit (key_in p ps w) (Syntax.number (part_numeral n)) hp refl) _
    (ap (λ xs. path_text (key_in p ps w) ++ xs) (append-nil (spelling (part_numeral n)))) (c ∷ more) nd
    (x.unviable (λ ys t. key_unviable ys (strictly limit) (members_from no_members ps) (path_frames p) (part_stage n) (part_numeral n) t
    refl))
ends_before limit p hp n h e c nd = after_follows limit p (Syntax.number (part_numeral n)) []
    (hp, done_value n h e, tt, flat_within limit p (Syntax.number (part_numeral n)) hp refl, tt) _ _
    (λ i. quote_digits limit p n) c

pub finish_follows : Ranges → (limit : Option ℕ) (p : Path) → IsPath limit p → (n : Part) → IsPart n → IsDone n → (c : ℕ)
    → is_ascii_digit c ≡ false → Follows limit (path_text p ++ part_text n) (path_frames p) (digits (part_stage n) (part_numeral n)) c
    (then_step (strictly limit) (finish (strictly limit) (path_frames p) (part_numeral n)) c)
finish_follows ranges limit p hp n hn h c nd = cond_both (not (in_range (value (part_numeral n)))) _ _
    (λ m. Follows limit (path_text p ++ part_text n) (path_frames p) (digits (part_stage n) (part_numeral n)) c
    (then_step (strictly limit) m c))
    (λ e more x. range_says ranges limit p hp n hn h.numeral h.no_zero h.whole (not-true _ e) (c ∷ more) nd x)
    (λ e. subst (λ xs. Follows limit (path_text p ++ xs) (path_frames p) (digits (part_stage n) (part_numeral n)) c
    (then_step (strictly limit) (complete true (path_frames p) (tree.number (value (part_numeral n))) false) c)) (append-nil _
    ∙ sym h.whole) (ends_before limit p hp n h (not-false _ e) c nd))

-- ---- a character in a number

unless_either : (limit : Option ℕ) (used : List ℕ) (gs : List Frame) (q : Phase) (c : ℕ) (fs : List Frame) (n : Numeral) (b : Bool)
    (x y : Option Next) → (b ≡ true → Follows limit used gs q c (unless_ended (strictly limit) fs n c x))
    → (b ≡ false → Follows limit used gs q c (unless_ended (strictly limit) fs n c y)) →
    Follows limit used gs q c (unless_ended (strictly limit) fs n c (cond b x y))
unless_either limit used gs q c fs n b x y = cond_both b x y (λ o. Follows limit used gs q c (unless_ended (strictly limit) fs n c o))

goes : (limit : Option ℕ) (p : Path) → IsPath limit p → (n m : Part) → IsPart m → (c : ℕ) → part_text m ≡ part_text n ++ c ∷ []
    → Spells limit ((path_text p ++ part_text n) ++ c ∷ []) (path_frames p) (digits (part_stage m) (part_numeral m))
goes limit p hp n m hm c e = after_read (in_digits p m) (hp, hm)
    (append_assoc (path_text p) (part_text n) (c ∷ []) ∙ ap (λ xs. path_text p ++ xs) (sym e))

pub integer_done : (b : Bool) (d : ℕ) (ds : List ℕ) → IsIntegerPart d ds → IsDone (part_integer b d ds)
integer_done b d ds h = record {
  numeral = record { integer = h.0; some_digit = omega arith; fraction = tt; exponent = tt };
  no_zero = h.1;
  whole = ap (λ xs. minus_text b ++ d ∷ xs) (sym (append-nil ds));
}

pub fraction_done : (b : Bool) (d : ℕ) (ds : List ℕ) (e : ℕ) (es : List ℕ) → IsPart (part_fraction b d ds e es)
    → IsDone (part_fraction b d ds e es)
fraction_done b d ds e es h = record {
  numeral = record { integer = h.0.0; some_digit = omega arith; fraction = h.1; exponent = tt };
  no_zero = h.0.1;
  whole = ap (λ xs. minus_text b ++ d ∷ (ds ++ 46 ∷ e ∷ xs)) (sym (append-nil es));
}

pub exponent_done : (b : Bool) (d : ℕ) (ds f : List ℕ) (l : ℕ) (s : Option ℕ) (e : ℕ) (es : List ℕ)
    → IsPart (part_exponent b d ds f l s e es) → IsDone (part_exponent b d ds f l s e es)
exponent_done b d ds f l s e es h = record {
  numeral = record {
    integer = h.0.0;
    some_digit = omega arith;
    fraction = h.1;
    exponent = record { letter = h.2; sign = h.3; digits = h.4; some_digit = omega arith };
  };
  no_zero = h.0.1;
  whole = refl;
}

pub digits_follows : Ranges → (limit : Option ℕ) (p : Path) → IsPath limit p → (n : Part) → IsPart n → (c : ℕ) →
    Follows limit (path_text p ++ part_text n) (path_frames p) (digits (part_stage n) (part_numeral n)) c
    (unless_ended (strictly limit) (path_frames p) (part_numeral n) c
    (step_digits (strictly limit) (path_frames p) (part_stage n) (part_numeral n) c))
digits_follows ranges limit p hp part_minus h c =
    either limit _ _ _ c (is_ascii_digit c) _ _ (λ e. goes limit p hp part_minus (part_integer true c []) (e, tt) c refl)
    (λ e more x. minus_says ranges limit p hp (c ∷ more) e x)
digits_follows ranges limit p hp (part_integer b d ds) h c = unless_either limit _ _ _ c _ _ (is_ascii_digit c) _ _
    (λ e. goes limit p hp (part_integer b d ds) (part_integer b d (ds ++ c ∷ [])) (h.0, digits_append ds c h.1 e) c (simp append_assoc))
    (λ i. unless_either limit _ _ _ c _ _ (has_leading_zero (d ∷ ds)) _ _
    (λ e more x. zero_says ranges limit p hp b d ds h e (c ∷ more) i x) (λ z. unless_either limit _ _ _ c _ _ (c == 46) _ _
    (λ e. goes limit p hp (part_integer b d ds) (part_point b d ds) (h, z) c (rw (eqb-true c 46 e) (simp append_assoc)))
    (λ j. unless_either limit _ _ _ c _ _ (is_exponent_letter c) _ _
    (λ e. goes limit p hp (part_integer b d ds) (part_letter b d ds [] c) ((h, z), tt, e) c (simp append_assoc))
    (λ k. finish_follows ranges limit p hp (part_integer b d ds) h (integer_done b d ds (h, z)) c i))))
digits_follows ranges limit p hp (part_point b d ds) h c =
    either limit _ _ _ c (is_ascii_digit c) _ _ (λ e. goes limit p hp (part_point b d ds) (part_fraction b d ds c []) (h, (e, tt)) c
    (simp append_assoc)) (λ e more x. point_says ranges limit p hp b d ds h (c ∷ more) e x)
digits_follows ranges limit p hp (part_fraction b d ds x xs) h c = unless_either limit _ _ _ c _ _ (is_ascii_digit c) _ _
    (λ e. goes limit p hp (part_fraction b d ds x xs) (part_fraction b d ds x (xs ++ c ∷ [])) (h.0, (h.1.0, digits_append xs c h.1.1 e)) c
    (simp append_assoc)) (λ i. unless_either limit _ _ _ c _ _ (is_exponent_letter c) _ _
    (λ e. goes limit p hp (part_fraction b d ds x xs) (part_letter b d ds (x ∷ xs) c) (h.0, h.1, e) c (simp append_assoc))
    (λ k. finish_follows ranges limit p hp (part_fraction b d ds x xs) h (fraction_done b d ds x xs h) c i))
digits_follows ranges limit p hp (part_letter b d ds f l) h c =
    either limit _ _ _ c (is_ascii_digit c) _ _ (λ e. goes limit p hp (part_letter b d ds f l) (part_exponent b d ds f l None c [])
    (h.0, h.1, h.2, tt, (e, tt)) c (simp append_assoc))
    (λ i. either limit _ _ _ c (is_sign c) _ _ (λ e. goes limit p hp (part_letter b d ds f l) (part_sign b d ds f l c) (h.0, h.1, h.2, e) c
    (simp append_assoc)) (λ j more x. letter_says ranges limit p hp b d ds f l h (c ∷ more) (or_from _ _ i j) x))
digits_follows ranges limit p hp (part_sign b d ds f l s) h c =
    either limit _ _ _ c (is_ascii_digit c) _ _ (λ e. goes limit p hp (part_sign b d ds f l s) (part_exponent b d ds f l (Some s) c [])
    (h.0, h.1, h.2, h.3, (e, tt)) c (simp append_assoc)) (λ i more x. sign_says ranges limit p hp b d ds f l s h (c ∷ more) i x)
digits_follows ranges limit p hp (part_exponent b d ds f l s x xs) h c = unless_either limit _ _ _ c _ _ (is_ascii_digit c) _ _
    (λ e. goes limit p hp (part_exponent b d ds f l s x xs) (part_exponent b d ds f l s x (xs ++ c ∷ []))
    (h.0, h.1, h.2, h.3, (h.4.0, digits_append xs c h.4.1 e)) c (simp append_assoc))
    (λ i. finish_follows ranges limit p hp (part_exponent b d ds f l s x xs) h (exponent_done b d ds f l s x xs h) c i)
