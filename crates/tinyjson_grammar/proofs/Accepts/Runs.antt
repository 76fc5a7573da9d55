-- Where a value is complete, and what the machine does with white space.
use Rattle.std.proofs.Common.{◌≡◌, ℕ, Bool, true, false, List, [], ◌∷◌, ◌++◌, refl, cond, arith, nat_lt, ◌&&◌, ◌||◌, ◌==◌, not}
use Rattle.std.specs.Prelude.{IsTrue, ⊤}
use Rattle.std.specs.Char.{is_ascii_digit}
use Rattle.std.proofs.lemmas.Bool.{or_parts}
use Rattle.tinyjson_grammar.specs.Kind.{kind_of}
use Rattle.tinyjson_grammar.specs.Tree.{Tree, is_string, key_of}
use Rattle.tinyjson_grammar.specs.Characters.{is_white}
use Rattle.tinyjson_grammar.specs.Syntax.{AreWhite}
use Rattle.tinyjson_grammar.specs.Machine.{Rules, Frame, at_key, Phase, awaited, first, after, finished, colon, Next, next, stop, Outcome}
use Rattle.tinyjson_grammar.specs.Machine.{refused, complete, step, run, go_on, end, end_plain, then_step}
use Rattle.tinyjson_grammar.specs.declared.error.JsonParseErrorKind.{JsonParseErrorKind}
use Rattle.tinyjson_grammar.specs.declared.error.JsonParseErrorKind.TheVariants.{KeyNotString}
use Rattle.tinyjson_number.specs.Numeral.{is_exponent_letter}

pub and_false : (b c : Bool) → (b ≡ true → c ≡ false) → (b && c) ≡ false
and_false true c h = h refl
and_false false c h = refl

-- what comes of the rest once a value is complete
abbrev pub settle : Rules → Next → List ℕ → Outcome
settle r (next fs p) rest = run r fs p rest
settle r (stop k b) rest = refused k rest

pub settle_cond : (r : Rules) (b : Bool) (k : JsonParseErrorKind) (fs : List Frame) (p : Phase) (c : ℕ) (xs : List ℕ) →
    go_on (λ gs q. run r gs q xs) (cond b (stop k true) (next fs p)) (c ∷ xs) xs ≡ settle r (cond b (stop k true) (next fs p)) xs
settle_cond r true k fs p c xs = refl
settle_cond r false k fs p c xs = refl

-- a character that completes a value
pub settle_complete : (r : Rules) (b : Bool) (fs : List Frame) (t : Tree) (c : ℕ) (xs : List ℕ) →
    go_on (λ gs q. run r gs q xs) (complete b fs t true) (c ∷ xs) xs ≡ settle r (complete b fs t true) xs
settle_complete r b (at_key ms ∷ fs) t c xs = settle_cond r (b && not (is_string t)) (KeyNotString (kind_of t)) (at_key ms ∷ fs)
    (colon (key_of t)) c xs
settle_complete r b _ t c xs = refl

-- a character after a complete numeral
ends_cond : (r : Rules) (b : Bool) (k : JsonParseErrorKind) (fs : List Frame) (l : List ℕ) (c : ℕ) (xs : List ℕ) →
    go_on (λ gs q. run r gs q xs) (then_step r (cond b (stop k false) (next fs (colon l))) c) (c ∷ xs) xs
    ≡ settle r (cond b (stop k true) (next fs (colon l))) (c ∷ xs)
unfolding run step
ends_cond r true k fs l c xs = refl
ends_cond r false k fs l c xs = refl

pub ends_complete : (r : Rules) (b : Bool) (fs : List Frame) (t : Tree) (c : ℕ) (xs : List ℕ) →
    go_on (λ gs q. run r gs q xs) (then_step r (complete b fs t false) c) (c ∷ xs) xs ≡ settle r (complete b fs t true) (c ∷ xs)
unfolding run step
ends_complete r b (at_key ms ∷ fs) t c xs = ends_cond r (b && not (is_string t)) (KeyNotString (kind_of t)) (at_key ms ∷ fs) (key_of t) c xs
ends_complete r b _ t c xs = refl

-- the end after a complete numeral
end_cond : (r : Rules) (b : Bool) (k : JsonParseErrorKind) (fs : List Frame) (l : List ℕ) →
    end_plain (cond b (stop k false) (next fs (colon l))) ≡ settle r (cond b (stop k true) (next fs (colon l))) []
unfolding run end
end_cond r true k fs l = refl
end_cond r false k fs l = refl

pub end_complete : (r : Rules) (b : Bool) (fs : List Frame) (t : Tree)
    → end_plain (complete b fs t false) ≡ settle r (complete b fs t true) []
unfolding run end
end_complete r b (at_key ms ∷ fs) t = end_cond r (b && not (is_string t)) (KeyNotString (kind_of t)) (at_key ms ∷ fs) (key_of t)
end_complete r b _ t = refl

-- ---- white space

pub run_white : (r : Rules) (fs : List Frame) (w xs : List ℕ) → AreWhite w → run r fs awaited (w ++ xs) ≡ run r fs awaited xs
unfolding run step
run_white r fs [] xs h = refl
run_white r fs (c ∷ cs) xs h = rw h.0 (run_white r fs cs xs h.1)

pub first_white : (r : Rules) (fs : List Frame) (w xs : List ℕ) → AreWhite w → run r fs first (w ++ xs) ≡ run r fs first xs
unfolding run step
first_white r fs [] xs h = refl
first_white r fs (c ∷ cs) xs h = rw h.0 (first_white r fs cs xs h.1)

pub after_white : (r : Rules) (fs : List Frame) (w xs : List ℕ) → AreWhite w → run r fs after (w ++ xs) ≡ run r fs after xs
unfolding run step
after_white r fs [] xs h = refl
after_white r fs (c ∷ cs) xs h = rw h.0 (after_white r fs cs xs h.1)

pub colon_white : (r : Rules) (fs : List Frame) (k w xs : List ℕ) → AreWhite w → run r fs (colon k) (w ++ xs) ≡ run r fs (colon k) xs
unfolding run step
colon_white r fs k [] xs h = refl
colon_white r fs k (c ∷ cs) xs h = rw h.0 (colon_white r fs k cs xs h.1)

pub finished_white : (r : Rules) (fs : List Frame) (t : Tree) (w : List ℕ) → AreWhite w → run r fs (finished t) w ≡ Outcome.accepted t
unfolding run step end
finished_white r fs t [] h = refl
finished_white r fs t (c ∷ cs) h = rw h.0 (finished_white r fs t cs h.1)

-- ---- what may stand after a numeral

abbrev pub continues : ℕ → Bool
continues c = is_ascii_digit c || ((c == 46) || is_exponent_letter c)

-- The list begins with no character that could continue a numeral.
abbrev pub Delimited : List ℕ → Type 0
Delimited [] = ⊤
Delimited (c ∷ cs) = continues c ≡ false

pub white_ends : (c : ℕ) → IsTrue (is_white c) → continues c ≡ false
white_ends c h = grind arith

pub delimited_white : (w xs : List ℕ) → AreWhite w → Delimited xs → Delimited (w ++ xs)
delimited_white [] xs h d = d
delimited_white (c ∷ cs) xs h d = white_ends c h.0

pub continues_digit : (c : ℕ) → continues c ≡ false → is_ascii_digit c ≡ false
continues_digit c h = (or_parts (is_ascii_digit c) ((c == 46) || is_exponent_letter c) h).0

pub continues_point : (c : ℕ) → continues c ≡ false → (c == 46) ≡ false
continues_point c h = (or_parts (c == 46) (is_exponent_letter c) (or_parts (is_ascii_digit c) ((c == 46) || is_exponent_letter c) h).1).0

pub continues_letter : (c : ℕ) → continues c ≡ false → is_exponent_letter c ≡ false
continues_letter c h = (or_parts (c == 46) (is_exponent_letter c) (or_parts (is_ascii_digit c) ((c == 46) || is_exponent_letter c) h).1).1

-- ---- a digit is none of the other characters

pub digit_is_not : (c n : ℕ) → is_ascii_digit c ≡ true → (nat_lt n 48 || nat_lt 57 n) ≡ true → (c == n) ≡ false
digit_is_not c n h k = grind arith

pub digit_not_white : (c : ℕ) → is_ascii_digit c ≡ true → is_white c ≡ false
digit_not_white c h = grind arith
